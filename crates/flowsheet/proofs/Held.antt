-- A flowsheet of some units and streams tells them. Assumes nothing.
use Rattle.std.proofs.Common.{◌≡◌, ℕ, List, ap}
use Rattle.flowsheet.specs.Sheet.{sheet_of}
use Rattle.flowsheet.specs.declared.Flowsheet.{Flowsheet}
use Rattle.flowsheet.specs.declared.Stream.{Stream}

pub sheet_held : (us : List ℕ) (ss : List Stream) (f : Flowsheet) → f ≡ sheet_of us ss → (f.units ≡ us) × (f.streams ≡ ss)
unfolding sheet_of
sheet_held us ss f e = (ap (λ (x : Flowsheet). x.units) e, ap (λ (x : Flowsheet). x.streams) e)

pub sheet_same : (us vs : List ℕ) (ss ts : List Stream) → sheet_of us ss ≡ sheet_of vs ts → (us ≡ vs) × (ss ≡ ts)
unfolding sheet_of
sheet_same us vs ss ts e = sheet_held vs ts (sheet_of us ss) e
