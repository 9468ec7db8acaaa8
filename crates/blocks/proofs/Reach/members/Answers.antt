-- A place of the block is put behind those before it, and the row has room for it. Assumes nothing.
use Rattle.std.proofs.Common.{◌≡◌, ◌∙◌, ◌∷◌, ◌++◌, [], sym, ap, arith, get_or}
use Rattle.sets.specs.Sets.{members}
use Rattle.blocks.specs.Blocks.{block_in, members_of}
use Rattle.blocks.proofs.Places.{places_joins, places_stays, places_most}
use Rattle.blocks.proofs.Reach.members.Goals as goal
use Rattle.blocks.proofs.Reach.members.Goals.{then-has, else-has}

pub loop-j-init : goal.loop-j-init
unfolding members
loop-j-init c =
    let t = c.args.self.now.rows in
    let i = c.args.place in
    record {
      block = c.block_set-set.ensures ∙ ap (λ x. block_in (get_or t i 0) x i) c.column.ensures;
      so_far = c.new-members.ensures;
    }

pub push-requires : goal.push-requires
push-requires c =
    let l = c.loop-j in
    (omega arith, rw l.invariant.so_far (omega (arith, places_most l.j c.block_set-set.result)))

pub loop-j-preserved : goal.loop-j-preserved
loop-j-preserved c =
    let l = c.loop-j in
    let set = c.block_set-set.result in
    let has = sym c.has.ensures in
    record {
      block = l.invariant.block;
      so_far = elim c.if-has.branch [
        | then-has w ↦ w.members-is ∙ w.push.ensures ∙ ap (λ xs. xs ++ (l.j ∷ [])) l.invariant.so_far ∙ places_joins l.j set (has ∙ w.if-has.true)
        | else-has w ↦ w.members-is ∙ l.invariant.so_far ∙ places_stays l.j set (has ∙ w.if-has.false)
      ];
    }

pub returns : goal.returns
unfolding members_of
returns c =
    let l = c.loop-j in
    let e : l.j ≡ c.args.self.now.places = omega arith in
    rw (e, l.invariant.block) at l.invariant.so_far
