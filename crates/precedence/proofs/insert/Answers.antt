use Rattle.precedence.specs.Sorted.{by_key}
use Rattle.precedence.proofs.Order.{by_key_lawful}
use Rattle.precedence.proofs.Placing.{row_after, front_after, inserted_after}
use Rattle.precedence.proofs.insert.Goals as goal

pub returns : goal.returns
returns g c =
    let order = c.args.order.now in
    let before = by_key g.T.Keyed.key (g.O.Precedence.before order) in
    let lawful = by_key_lawful g.T.Keyed.key (g.O.Precedence.before order) (g.met.O.Precedence.lawful order) in
    let room = c.if-len-row.false in
    let e = row_after before c.args.x c.args.row.now c.copy_within.new.self c.args.len c.place-i.result room c.place-i.ensures.within c.copy_within.ensures.after c.place-i.ensures.there in
    let f = front_after before c.args.x c.args.row.now _ c.args.len room e in
    (room, e, f, inserted_after before c.args.x lawful _ _ f)
