-- What a search goes by, in one array that code hands on by one reference: the table's header row, and the query as a
-- row whose threshold word is the radius of a range search or the k of a nearest one, and whose day word is the first
-- day.
use Rattle.std.specs.Prelude.{ℕ, Bool, List, [], ◌∷◌, get_or}
use Rattle.metric_rules.specs.declared.Profile.{Profile}
use Rattle.metric_rules.specs.Row.{Row, profile_of, threshold_of, query_row, may_report}
use Rattle.metric_rules.specs.Distance.{distance, space_of}

abbrev pub asked_of : Row → Profile → ℕ → ℕ → List Row
asked_of header query number firstDay = header ∷ query_row query number firstDay ∷ []

abbrev pub distance_asked : List Row → Profile → Profile → ℕ
distance_asked asked = distance (space_of (get_or asked 0 []))

abbrev pub query_asked : List Row → Profile
query_asked asked = profile_of (get_or asked 1 [])

-- range's number
abbrev pub radius_asked : List Row → ℕ
radius_asked asked = threshold_of (get_or asked 1 [])

-- nearest's number, in the same word
abbrev pub k_asked : List Row → ℕ
k_asked asked = threshold_of (get_or asked 1 [])

-- what such a search may report
abbrev pub reports_asked : List Row → Row → Bool
reports_asked asked = may_report (get_or asked 1 [])
