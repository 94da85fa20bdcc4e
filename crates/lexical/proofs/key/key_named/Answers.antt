use Rattle.std.proofs.Common.{rules}
use Rattle.lexical.specs.declared.key.Key.TheVariants.{Autos, Clocks, Triggers, Chans, Edges}
use Rattle.lexical.proofs.Named.{known}
use Rattle.lexical.proofs.key.key_named.Goals as goal

pub returns-in-autos : goal.returns-in-autos
returns-in-autos c = known Autos c.args.key.now (search rules) (search rules)

pub returns-in-clocks : goal.returns-in-clocks
returns-in-clocks c = known Clocks c.args.key.now (search rules) (search rules)

pub returns-in-triggers : goal.returns-in-triggers
returns-in-triggers c = known Triggers c.args.key.now (search rules) (search rules)

pub returns-in-chans : goal.returns-in-chans
returns-in-chans c = known Chans c.args.key.now (search rules) (search rules)

pub returns-in-edges : goal.returns-in-edges
returns-in-edges c = known Edges c.args.key.now (search rules) (search rules)
