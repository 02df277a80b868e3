-- A pair sets one content after another.
use Rattle.std.specs.Prelude.{◌≡◌, ℕ, ◌+◌, codes, decimal, max, Bool, false, ◌&&◌, ◌||◌, List, ◌++◌, length, Some, None, Ok, Err, Option, Result, MatchResult, if◌then◌else◌, ◌==◌, nat_le, nat_lt}
use Rattle.content.specs.declared.contents.Content.{Ghosts as Meaning}
use Rattle.content.specs.declared.ranks.Rank.{Rank}
use Rattle.content.specs.declared.ranks.Rank.TheVariants.{Forced, Free, AgainstOrphansOrWidows, AgainstAvoid}
use Rattle.content.specs.declared.strips.Strip.{Strip}
use Rattle.layers.specs.declared.faults.LayerFault.{LayerFault}
use Rattle.layers.specs.declared.faults.LayerFault.TheVariants.{Begun, PairLimit}
use Rattle.layers.specs.declared.joints.BreakWord.{BreakWord}
use Rattle.layers.specs.declared.joints.BreakWord.TheVariants.{Auto, Avoid, Force}
use Rattle.layers.specs.declared.joints.Joint.{Joint}
use Rattle.layers.specs.declared.joints.UnknownWord.{UnknownWord}
use Rattle.layers.specs.declared.pairs.Pair.{Pair}
use Rattle.layers.specs.Places.{Change, by_place}

abbrev pub word_number : BreakWord → ℕ
word_number Auto = 0
word_number Avoid = 1
word_number Force = 2

-- The word that has a number.
abbrev pub word_of : ℕ → Option BreakWord
word_of n = if n == 0 then Some Auto else if n == 1 then Some Avoid else if n == 2 then Some Force else None

-- The result is the word that has the number, or an error with a number that no word has.
abbrev pub NamesWord : ℕ → Result BreakWord UnknownWord → Type 0
NamesWord n r = MatchResult r (λ word. word_of n ≡ Some word) (λ unknown. (unknown.0 ≡ n) × (word_of n ≡ None))

-- A forced break stays forced. Else force forces it, avoid grades it as against an avoid, and auto leaves it.
abbrev pub joined_rank : BreakWord → Rank → Rank
joined_rank Auto grade = grade
joined_rank Force grade = Forced
joined_rank Avoid Forced = Forced
joined_rank Avoid Free = AgainstAvoid
joined_rank Avoid AgainstOrphansOrWidows = AgainstAvoid
joined_rank Avoid AgainstAvoid = AgainstAvoid

-- The first strip of the second part has at least the gap above it, and the word grades the break before it.
abbrev pub joined : Joint → Change
joined by first last s = record {
  node = s.node;
  part = s.part;
  height = s.height;
  lead = if first then max s.lead by.gap else s.lead;
  head = s.head;
  tail = s.tail;
  bales = s.bales;
  rank = if first then joined_rank by.word s.rank else s.rank;
}

-- Whether two parts of m and n strips may be joined so.
abbrev pub joint_fits : ℕ → ℕ → Joint → Bool
joint_fits m n by = nat_le by.gap 4095 && nat_le (m + n) 1000000

-- Past the limits a pair means what it did at its start.
abbrev pub joint_over : ℕ → ℕ → Option Joint → Option Joint
joint_over m n None = None
joint_over m n (Some by) = if joint_fits m n by then Some by else None

-- It starts as the first part alone. Joined, it is both, one after the other.
abbrev pub linked : Option Joint → List Strip → Bool → List Strip → List Strip
linked None xs begun ys = xs
linked (Some by) xs begun ys = xs ++ by_place (joined by) begun ys

abbrev pub linked_count : Option Joint → ℕ → ℕ → ℕ
linked_count None m n = m
linked_count (Some by) m n = m + n

abbrev pub linked_reach : Option Joint → ℕ → ℕ → ℕ
linked_reach None m n = m
linked_reach (Some by) m n = max 4095 (max m n)

module _ {A B : Type 0} where
  abbrev pub first_of : Pair A B → A
  first_of p = p.first.content

  abbrev pub second_of : Pair A B → B
  second_of p = p.second.content

  -- The joint that was made last, within the limits or not.
  abbrev pub joint_of : Pair A B → Option Joint
  joint_of p = p.joint

  -- Whether a strip of either part was taken through the pair.
  abbrev pub pair_begun : Pair A B → Bool
  pair_begun p = p.first.begun || p.second.begun

  -- How many strips are left of each part.
  abbrev pub first_count : Meaning A → Pair A B → ℕ
  first_count a p = length (a.strips (first_of p))

  abbrev pub second_count : Meaning B → Pair A B → ℕ
  second_count b p = length (b.strips (second_of p))

  -- What is left of a pair, and its reach, by its parts' strips and reaches.
  module _ (a : Meaning A) (b : Meaning B) where
    abbrev pub pair_joint : Pair A B → Option Joint
    pair_joint p = joint_over (first_count a p) (second_count b p) (joint_of p)

    abbrev pub left_by : Option Joint → Pair A B → List Strip
    left_by j p = linked j (a.strips (first_of p)) p.second.begun (b.strips (second_of p))

    abbrev pub pair_left : Pair A B → List Strip
    pair_left p = left_by (pair_joint p) p

    abbrev pub pair_reach : Pair A B → ℕ
    pair_reach p = linked_reach (pair_joint p) (a.reach (first_of p)) (b.reach (second_of p))

    -- A pair as a content.
    abbrev pub pair_content : Meaning (Pair A B)
    pair_content = record { strips = pair_left; reach = pair_reach }

    -- Both parts under some joint, within the limits or not.
    abbrev pub both_left : Joint → Pair A B → List Strip
    both_left by p = left_by (Some by) p

    -- A pair that was joined: no strip had been taken through it, and the joint is within the limits.
    pub record JoinedBy (by : Joint) (before after : Pair A B) : Type 0 where
      pub first_kept : after.first ≡ before.first
      pub second_kept : after.second ≡ before.second
      pub joint : joint_of after ≡ Some by
      -- which is the joint that it means
      pub within : pair_joint after ≡ Some by
      pub left : pair_left after ≡ a.strips (first_of before) ++ by_place (joined by) false (b.strips (second_of before))
      pub reaches : pair_reach after ≡ max 4095 (max (a.reach (first_of before)) (b.reach (second_of before)))

    -- What a take of k that answered r leaves of a pair beside its list: whether it is begun, and its parts where none was taken.
    pub record PartsLeft (k : ℕ) (r : Bool) (old new : Pair A B) : Type 0 where
      pub begins : pair_begun new ≡ (pair_begun old || (r && nat_lt 0 k))
      pub idle_first : (r && nat_lt 0 k) ≡ false → a.strips (first_of new) ≡ a.strips (first_of old)
      pub idle_second : (r && nat_lt 0 k) ≡ false → b.strips (second_of new) ≡ b.strips (second_of old)
      pub reach_first : a.reach (first_of new) ≡ a.reach (first_of old)
      pub reach_second : b.reach (second_of new) ≡ b.reach (second_of old)

-- What an unknown word says of itself.
abbrev pub unknown_words : UnknownWord → List ℕ
unknown_words unknown = codes "no break word has number " ++ decimal unknown.0

-- The checks of a joint, where the parts have m and n strips.
abbrev pub joint_checked : ℕ → ℕ → ℕ → Option BreakWord → Result Joint LayerFault
joint_checked m n space None = Err PairLimit
joint_checked m n space (Some by) = if joint_fits m n (record { word = by; gap = space }) then Ok (record { word = by; gap = space }) else Err PairLimit

-- A pair is joined before any strip is taken through it, by a word's number and a gap within the limits.
abbrev pub pair_checked : Bool → ℕ → ℕ → ℕ → ℕ → Result Joint LayerFault
pair_checked begun m n number space = if begun then Err Begun else joint_checked m n space (word_of number)

-- What a join by that number and gap comes to.
abbrev pub join_checked : {A B : Type 0} → Meaning A → Meaning B → Pair A B → ℕ → ℕ → Result Joint LayerFault
join_checked a b p = pair_checked (pair_begun p) (first_count a p) (second_count b p)
