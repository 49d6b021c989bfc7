-- The whole table of cases, under one theorem.
use Rattle.std.specs.Prelude.{List, ◌++◌}
use Rattle.cases.specs.Cases.{Case, main_cases, Hold}
use Rattle.cases.specs.ErrorRecords.{record_cases}
use Rattle.cases.specs.Sessions.{session_cases}
use Rattle.cases.specs.Measurements.{measurement_cases}

abbrev pub cases : List Case
cases = main_cases ++ (record_cases ++ (session_cases ++ measurement_cases))

abbrev pub CasesHold : Type 0
CasesHold = Hold cases
