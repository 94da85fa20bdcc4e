-- How a report is printed.
use Rattle.std.specs.Prelude.{ℕ, List, ◌++◌, codes, decimal}
use Rattle.lexical.specs.declared.fault.Report.{Report}

abbrev pub report_text : Report → List ℕ
report_text r = codes "refused=" ++ decimal r.cause ++ codes "," ++ decimal r.layer ++ codes "," ++ decimal r.line ++ codes "," ++ decimal r.column
