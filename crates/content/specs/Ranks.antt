-- The grade of the break just before a strip: its number and its name.
use Rattle.std.specs.Prelude.{ℕ, List, codes}
use Rattle.content.specs.declared.ranks.Rank.{Rank}
use Rattle.content.specs.declared.ranks.Rank.TheVariants.{Forced, Free, AgainstOrphansOrWidows, AgainstAvoid}

abbrev pub rank_number : Rank → ℕ
rank_number Forced = 0
rank_number Free = 1
rank_number AgainstOrphansOrWidows = 2
rank_number AgainstAvoid = 3

abbrev pub rank_words : Rank → List ℕ
rank_words Forced = codes "forced"
rank_words Free = codes "free"
rank_words AgainstOrphansOrWidows = codes "against orphans or widows"
rank_words AgainstAvoid = codes "against an avoid"
