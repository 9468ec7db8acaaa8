-- Both tables are tested, or the first that isn't good decides.
use Rattle.std.proofs.Common.{◌≡◌, ℕ, true, false}
use Rattle.flowsheet.specs.Good.{rows_good, is_good}
use Rattle.flowsheet.proofs.Good.{good_exact}
use Rattle.flowsheet.proofs.is_good.Goals as goal

pub returns-then-all_good : goal.returns-then-all_good
unfolding is_good
returns-then-all_good c =
    let units : rows_good (λ (u : ℕ). u) (λ (u : ℕ). 0) 0 c.args.sheet.now.units ≡ true = cc in
    let tested : c.all_good-then-all_good.result ≡ is_good c.args.sheet.now.units c.args.sheet.now.streams = rw units (cc) in
    record {
      tested = tested;
      exactly = rw (tested, ← c.sheet.view_is) (good_exact _ _ c.items-units.ensures.few c.items-streams.ensures.few);
    }

pub returns-else-all_good : goal.returns-else-all_good
unfolding is_good
returns-else-all_good c =
    let units : rows_good (λ (u : ℕ). u) (λ (u : ℕ). 0) 0 c.args.sheet.now.units ≡ false = cc in
    let tested : c.all_good.result ≡ is_good c.args.sheet.now.units c.args.sheet.now.streams = rw units (cc) in
    record {
      tested = tested;
      exactly = rw (tested, ← c.sheet.view_is) (good_exact _ _ c.items-units.ensures.few c.items-streams.ensures.few);
    }
