-- The values passed are at the end those of the three rows zipped.
use Rattle.std.proofs.Common.{◌∙◌, sym, ap, map}
use Rattle.std.proofs.lemmas.Iterator.{YieldsList-from_slice, YieldsList-from_zip}
use Rattle.std.proofs.lemmas.Iterator.Consumers.{YieldsList-end}
use Rattle.converge.specs.Answer.{method_number}
use Rattle.converge.proofs.Rows.{next_at, map-map, nexts_map}
use Rattle.converge.proofs.push_nexts.Goals as goal

pub returns : goal.returns
returns c =
    let a = c.args in
    let f = next_at a.count (method_number a.method) in
    let t =
    YieldsList-end
    (YieldsList-from_zip (YieldsList-from_zip (YieldsList-from_slice a.x.now cc) (YieldsList-from_slice a.y.now cc)) (YieldsList-from_slice a.history.now cc))
    c.loop-x.yielded _ c.loop-x.yielded_by _ c.next.new.self c.in-None.is c.next.ensures.steps in
    c.loop-x.invariant ∙ sym (map-map f _ c.loop-x.yielded) ∙ ap (map f) t.0 ∙ nexts_map a.x.now a.y.now a.history.now a.count (method_number a.method)
