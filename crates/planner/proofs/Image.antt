-- The plan's image as it is written: rows of numbers of 16 bits, one after the other, are stores one after the other, and stores from the
-- front on are what is laid over a buffer. Assumes nothing.
use mathlib.Core.List.{List, [], ◌∷◌, ◌++◌, append_assoc}
use mathlib.Core.Path.{◌≡◌, refl, ◌∙◌}
use Prim.Native.Nat.{ℕ, zero, suc, ◌+◌, ◌*◌, ◌≤◌, ◌<◌}
use native.Mathlib.Nat.{zero-add}
use native.Mathlib.Omega.{arith}
use lib.ListN.{length, get_or, length-append}
use lib.Seq.{sets, sets-eq}
use Rattle.words.specs.Words.{bytes_of, flat, with_numbers}
use Rattle.words.proofs.Rows.{length-flat, sets_rows}
use Rattle.planner.specs.Image.{image_length, plan_header, plan_numbers, plan_bytes, plan_length, laid_over}
use Rattle.planner.specs.Plan.{BlockPlan}
use Rattle.planner.specs.Tables.{order_table, torn_table, block_table, plan_value}
use Rattle.planner.specs.declared.Plan.{Plan}

-- four rows of numbers one after the other from the front on, of which the first has eight
four_rows : (l head blocks order torn : List ℕ) → length head ≡ 8
    → with_numbers (with_numbers (with_numbers (with_numbers l 0 head) 16 blocks) (16 + 2 * length blocks) order) (16 + 2 * length blocks + 2 * length order) torn
    ≡ with_numbers l 0 (head ++ (blocks ++ (order ++ torn)))
four_rows l head blocks order torn eight =
    let e1 : 0 + 2 * length head ≡ 16 = omega arith in
    let e2 : 0 + 2 * length (head ++ blocks) ≡ 16 + 2 * length blocks = rw length-append (omega arith) in
    let e3 : 0 + 2 * length ((head ++ blocks) ++ order) ≡ 16 + 2 * length blocks + 2 * length order = rw (length-append, length-append) (omega arith) in
    let s1 = sets_rows l 0 head blocks in
    let s2 = sets_rows l 0 (head ++ blocks) order in
    let s3 = sets_rows l 0 ((head ++ blocks) ++ order) torn in
    rw (rw e1 at s1, rw e2 at s2, rw e3 at s3, append_assoc (head ++ blocks) order torn, append_assoc head blocks (order ++ torn))

-- what is stored from the front on lies over the buffer
laid : (l xs : List ℕ) → length xs ≤ length l → sets l 0 xs ≡ laid_over xs l
unfolding laid_over
laid l xs h = sets-eq xs l 0 (rw zero-add h) ∙ rw zero-add

-- "A plan has at most 1,168 bytes": at most 64 blocks, 64 units and 256 torn streams
pub at_most : (b u t : ℕ) → b ≤ 256 → u ≤ 64 → t ≤ 256 → image_length b u t ≤ 1168
at_most b u t hb hu ht = omega arith

-- a row of numbers that all fit 16 bits
abbrev pub Fit16 : List ℕ → Type 0
Fit16 xs = (i : ℕ) → get_or xs i 0 < 65536

abbrev Each16 : List ℕ → Type 0
Each16 [] = 0 < 65536
Each16 (x ∷ xs) = (x < 65536) × Each16 xs

each_fits : (xs : List ℕ) → Each16 xs → Fit16 xs
each_fits [] h i = h
each_fits (x ∷ xs) h zero = h.0
each_fits (x ∷ xs) h (suc i) = each_fits xs h.1 i

fit_append : (xs ys : List ℕ) → Fit16 xs → Fit16 ys → Fit16 (xs ++ ys)
fit_append [] ys f g i = g i
fit_append (x ∷ xs) ys f g zero = f zero
fit_append (x ∷ xs) ys f g (suc i) = fit_append xs ys (λ k. f (suc k)) g i

module _ (blocks order torn : List ℕ) where
  -- the image of these tables has so many bytes
  pub length_numbers : length (flat (bytes_of 2) (plan_numbers blocks order torn)) ≡ image_length (length blocks) (length order) (length torn)
  unfolding plan_numbers plan_header
  length_numbers = simp (length-flat, length-append) (omega arith)

  -- and all its numbers fit 16 bits
  pub numbers_fit : length blocks ≤ 256 → length order ≤ 256 → length torn ≤ 256 → Fit16 blocks → Fit16 order → Fit16 torn
      → Fit16 (plan_numbers blocks order torn)
  unfolding plan_numbers plan_header
  numbers_fit hb ho ht fb fo ft =
      fit_append (plan_header (length blocks) (length order) (length torn)) (blocks ++ (order ++ torn))
      (each_fits (plan_header (length blocks) (length order) (length torn)) (omega arith))
      (fit_append blocks (order ++ torn) fb (fit_append order torn fo ft))

  -- the header and the tables, one after the other, lie over the buffer
  all_rows : (l : List ℕ) (b u t : ℕ) → length blocks ≡ b → length order ≡ u → length torn ≡ t → image_length b u t ≤ length l
      → with_numbers (with_numbers (with_numbers (with_numbers l 0 (plan_header b u t)) 16 blocks) (16 + 2 * b) order) (16 + 2 * b + 2 * u) torn
      ≡ laid_over (flat (bytes_of 2) (plan_numbers blocks order torn)) l
  unfolding plan_numbers plan_header
  all_rows l b u t eb eu et h =
      let fits : length (flat (bytes_of 2) (plan_numbers blocks order torn)) ≤ length l = rw (length_numbers, eb, eu, et) h in
      rw (← eb, ← eu, ← et)
      (four_rows l (plan_header (length blocks) (length order) (length torn)) blocks order torn refl
      ∙ laid l (flat (bytes_of 2) (plan_numbers blocks order torn)) fits)

-- plans that hold the same lists have the same image
pub same_bytes : (p q : Plan) → p.blocks ≡ q.blocks → p.order ≡ q.order → p.torn ≡ q.torn → plan_bytes p ≡ plan_bytes q
unfolding plan_bytes
same_bytes p q b o t = rw (b, o, t)

-- the image of a plan's value
pub bytes_of_lem : (bs : List BlockPlan) → plan_bytes (plan_value bs) ≡ flat (bytes_of 2) (plan_numbers (block_table bs) (order_table bs) (torn_table bs))
unfolding plan_bytes plan_value
bytes_of_lem bs = refl

module _ (p : Plan) where
  pub length_plan : length (plan_bytes p) ≡ plan_length p
  unfolding plan_bytes
  length_plan = length_numbers p.blocks p.order p.torn

  -- the header and the tables, one after the other, are the plan's image laid over the buffer
  pub all_written : (l : List ℕ) → plan_length p ≤ length l
      → with_numbers (with_numbers (with_numbers (with_numbers l 0 (plan_header (length p.blocks) (length p.order) (length p.torn))) 16 p.blocks) (16 + 2 * length p.blocks) p.order) (16 + 2 * length p.blocks + 2 * length p.order) p.torn
      ≡ laid_over (plan_bytes p) l
  unfolding plan_bytes
  all_written l h = all_rows p.blocks p.order p.torn l (length p.blocks) (length p.order) (length p.torn) refl refl refl h
