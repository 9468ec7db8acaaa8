-- The lowest free place names the block that comes next, and where none is free the order ends. Assumes nothing.
use Rattle.std.proofs.Common.{◌≡◌, ◌∙◌, sym, ap, arith, get_or, Some, None}
use Rattle.blocks.specs.Blocks.{block_in, block_of}
use Rattle.blocks.proofs.Lowest.{first_is}
use Rattle.blocks.proofs.Turns.{listing_none, listing_stop, listing_more, listing_all}
use Rattle.blocks.proofs.Reach.order.Goals as goal

pub loop-init : goal.loop-init
loop-init c = rw c.new-order.ensures (listing_none c.args.self.now.rows c.args.self.now.places)

pub returns-in_default : goal.returns-in_default
returns-in_default c =
    let t = c.args.self.now.rows in
    let n = c.args.self.now.places in
    let columns = c.columns-columns in
    listing_stop t n c.loop.invariant (omega arith)
    (sym (first_is t n c.loop.placed columns.result columns.ensures None c.in_default.ensures))

pub loop-preserved : goal.loop-preserved
loop-preserved c =
    let t = c.args.self.now.rows in
    let n = c.args.self.now.places in
    let columns = c.columns-columns in
    let i = c.in-Some.i in
    let found = c.in-Some.ensures in
    let block : c.block_set-placed.result ≡ block_of t n i =
    c.block_set-placed.ensures ∙ ap (λ x. block_in (get_or t i 0) x i) (columns.ensures i found.0) in
    rw (block, c.push.ensures)
    (listing_more t n c.loop.invariant (omega arith) i (first_is t n c.loop.placed columns.result columns.ensures (Some i) found) found.0)

pub returns : goal.returns
returns c =
    listing_all c.args.self.now.rows c.args.self.now.places c.loop.invariant (omega arith)
