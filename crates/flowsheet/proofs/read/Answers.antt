-- The header, the unit table and the stream table in turn; what they tell together is in proofs/Parts.antt.
use Rattle.std.proofs.Common.{List, ℕ, ap, ◌∙◌, arith, lit<}
use Rattle.std.proofs.lemmas.Result.{err_from_is_err_and}
use Rattle.flowsheet.specs.Image.{unit_at, stream_at, stream_table_of}
use Rattle.flowsheet.proofs.Parts.{refused_header, units_fit, refused_units, streams_fit, refused_streams, all_read}
use Rattle.flowsheet.proofs.Records.{unit_table, stream_table}
use Rattle.flowsheet.proofs.read.Goals as goal

pub returns-in_err-header : goal.returns-in_err-header
returns-in_err-header c =
    let p = err_from_is_err_and c.from_residual.result c.from_residual.ensures.1 in
    rw (p.1, p.2) (refused_header c.args.image.now _ c.in_err-header.ensures)

pub read_table-requires : goal.read_table-requires
read_table-requires c =
    let fit = units_fit c.args.image.now c.in_ok-header.header c.in_ok-header.ensures in
    (lit< tt, (fit.0, (fit.1, c.new-units.ensures)))

pub returns-in_err-read_table : goal.returns-in_err-read_table
unfolding unit_at
returns-in_err-read_table c =
    let l : List ℕ = c.args.image.now in
    let h = c.in_ok-header in
    let p = err_from_is_err_and c.from_residual-in_err-read_table.result c.from_residual-in_err-read_table.ensures.1 in
    rw (p.1, p.2) (refused_units l h.header h.ensures _ (c.in_err-read_table.ensures ∙ unit_table l h.header.units))

pub overflow_mul-header : goal.overflow_mul-header
overflow_mul-header c =
    let fit = units_fit c.args.image.now c.in_ok-header.header c.in_ok-header.ensures in
    omega arith

pub overflow_add-header : goal.overflow_add-header
overflow_add-header c =
    let fit = units_fit c.args.image.now c.in_ok-header.header c.in_ok-header.ensures in
    omega arith

pub read_table-requires-2 : goal.read_table-requires-2
read_table-requires-2 c =
    let fit = streams_fit c.args.image.now c.in_ok-header.header c.in_ok-header.ensures in
    (lit< tt, (fit.0, (fit.1, c.new-streams.ensures)))

pub returns-in_err-read_table-2 : goal.returns-in_err-read_table-2
unfolding unit_at stream_at
returns-in_err-read_table-2 c =
    let l : List ℕ = c.args.image.now in
    let h = c.in_ok-header in
    let p = err_from_is_err_and c.from_residual-in_err-read_table-2.result c.from_residual-in_err-read_table-2.ensures.1 in
    let u = c.in_ok-read_table.ensures ∙ unit_table l h.header.units in
    let same = ap (λ (units : List ℕ). stream_table_of l h.header.units units h.header.streams) c.items.ensures.items in
    rw (p.1, p.2)
    (refused_streams l h.header h.ensures c.read_table.new.records u _
    (c.in_err-read_table-2.ensures ∙ stream_table l h.header.units c.items.result.now h.header.streams ∙ same))

pub returns : goal.returns
unfolding unit_at stream_at
returns c =
    let l : List ℕ = c.args.image.now in
    let h = c.in_ok-header in
    let u = c.in_ok-read_table.ensures ∙ unit_table l h.header.units in
    let same = ap (λ (units : List ℕ). stream_table_of l h.header.units units h.header.streams) c.items.ensures.items in
    all_read l h.header h.ensures c.read_table.new.records u c.read_table-2.new.records
    (c.in_ok-read_table-2.ensures ∙ stream_table l h.header.units c.items.result.now h.header.streams ∙ same)
