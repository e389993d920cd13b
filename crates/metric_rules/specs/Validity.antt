-- RULES 2.2, 2.4, 2.8, 14.6: which tags, measures, days and marks are valid.
use Rattle.std.specs.Prelude.{ℕ, ◌/◌, ◌%◌, ◌^◌, Bool, ◌&&◌, ℤ, nat_abs, leb}
use Rattle.lists.specs.Lists.{every}
use Rattle.metric_rules.specs.declared.Profile.{Profile}
use Rattle.metric_rules.specs.Row.{Row, mark_of}

-- RULES 2.1: a tag is country × 10^12 + national
unfoldable pub nationals : ℕ
nationals = 10 ^ 12

unfoldable pub country_of : ℕ → ℕ
unfolding nationals
country_of tag = tag / nationals

unfoldable pub national_of : ℕ → ℕ
unfolding nationals
national_of tag = tag % nationals

-- RULES 2.2: the country is 1 to 999, the national at most what 38 bits hold
unfoldable pub last_country : ℕ
last_country = 999

unfoldable pub last_national : ℕ
last_national = 274_877_906_943

unfoldable pub valid_tag : ℕ → Bool
unfolding country_of national_of last_country last_national
valid_tag tag = leb 1 (country_of tag) && leb (country_of tag) last_country && leb (national_of tag) last_national

-- RULES 2.4: a measure is hundredths from -1,000,000 to 1,000,000
unfoldable pub measure_limit : ℕ
measure_limit = 1_000_000

unfoldable pub valid_measure : ℤ → Bool
unfolding measure_limit
valid_measure m = leb (nat_abs m) measure_limit

unfoldable pub valid_measures : Profile → Bool
unfolding every valid_measure
valid_measures p = every valid_measure p.measures

-- a mark is 0, live, or 1, dead; a foreign row may have any
abbrev pub valid_mark : Row → Bool
valid_mark row = leb (mark_of row) 1

-- RULES 2.8: a day is 1 to 65,535; what is handed over has 16 bits
abbrev pub valid_day : ℕ → Bool
valid_day day = leb 1 day
