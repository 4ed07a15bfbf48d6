-- What a survey table holds.
use Rattle.std.specs.Prelude.{List, take}
use Rattle.survey.specs.declared.leg.Leg.{Leg}
use Rattle.table.specs.declared.survey_table.SurveyTable.{SurveyTable}

-- the legs in use
abbrev pub table_legs : SurveyTable → List Leg
table_legs t = take t.count t.legs
