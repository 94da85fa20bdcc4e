-- How a relation and a rule are printed.
use Rattle.std.specs.Prelude.{ℕ, List, codes}
use Rattle.parts.specs.declared.part.Relation.{Relation}
use Rattle.parts.specs.declared.part.Relation.TheVariants.{Lt, Le, Eq, Ge, Gt}
use Rattle.parts.specs.declared.part.Rule.{Rule}
use Rattle.parts.specs.declared.part.Rule.TheVariants.{BadCounts, OutOfTurn, TooMany, BadVariable, BadTask, BadLocation, BadAutomaton, BadEnds, BadEdge}

abbrev pub relation_sign : Relation → List ℕ
relation_sign Lt = codes "<"
relation_sign Le = codes "<="
relation_sign Eq = codes "="
relation_sign Ge = codes ">="
relation_sign Gt = codes ">"

abbrev pub rule_text : Rule → List ℕ
rule_text BadCounts = codes "there are 1 to 8 automata, at most 16 clocks, 16 triggers and 8 channels"
rule_text OutOfTurn = codes "variables come before tasks, tasks before locations, locations before edges"
rule_text TooMany = codes "there are at most 16 variables, 16 tasks, 64 locations and 128 edges"
rule_text BadVariable = codes "the start lies from low to high"
rule_text BadTask = codes "1 <= C <= D <= 1000000, and it assigns variables that are there"
rule_text BadLocation = codes "its task and its clocks are there, its bounds at most 1000000000"
rule_text BadAutomaton = codes "locations go automaton by automaton, none left out"
rule_text BadEnds = codes "both ends are there and of one automaton"
rule_text BadEdge = codes "it refers to what is there, with constants in range"
