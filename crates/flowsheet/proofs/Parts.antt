-- What the parts of an image tell together: the header, then the unit table, then the stream table. Assumes nothing.
use Rattle.std.proofs.Common.{◌≡◌, ℕ, ◌+◌, ◌*◌, ◌≤◌, List, length, Ok, Err, sym, ap, ◌∙◌, arith}
use Rattle.rows.specs.Rows.{table}
use Rattle.flowsheet.specs.Answers.{number_of, number_in, reading}
use Rattle.flowsheet.specs.Exactly.{GoodHeader}
use Rattle.flowsheet.specs.Image.{unit_count, stream_count, header_of, header_number, unit_at, unit_table_of, units_number, unit_list, stream_at, stream_table_of, streams_number, stream_list, answer_of, reading_of}
use Rattle.flowsheet.specs.Sheet.{sheet_of}
use Rattle.flowsheet.specs.declared.Header.{Header}
use Rattle.flowsheet.specs.declared.Refusal.{Refusal}
use Rattle.flowsheet.specs.declared.Stream.{Stream}
use Rattle.flowsheet.proofs.Exact.{good_header_is, header_good}
use Rattle.flowsheet.proofs.First.{first_none, first_given}
use Rattle.flowsheet.proofs.Records.{answered_read, header_number_lem, units_number_lem, streams_number_lem, reading_refused, reading_accepted}
use Rattle.flowsheet.proofs.Tables.{number_some}

module _ (l : List ℕ) where
  refused_by : (e : Refusal) → answer_of l ≡ number_of e → reading (Err e) ≡ reading_of l
  refused_by e is = sym (reading_refused l (number_of e) is (number_some e))

  pub refused_header : (e : Refusal) → Err (number_of e) ≡ header_of l → reading (Err e) ≡ reading_of l
  unfolding answer_of
  refused_header e is =
      let n : number_of e ≡ header_number l = ap number_in is ∙ header_number_lem l in
      refused_by e (first_given _ _ (λ z. number_some e (n ∙ z)) ∙ sym n)

  module _ (h : Header) (is : Ok h ≡ header_of l) where
    good : GoodHeader l
    good = header_good l (sym (header_number_lem l) ∙ sym (ap number_in is))

    counted : h ≡ record { units = unit_count l; streams = stream_count l }
    unfolding header_of
    counted = answered_read (header_number l) _ h is

    pub units_fit : (h.units ≤ 64) × (16 + 2 * h.units ≤ length l)
    units_fit = rw counted (good.units, omega (arith, good.layout.lent))

    pub streams_fit : (h.streams ≤ 256) × (16 + 2 * h.units + 8 * h.streams ≤ length l)
    streams_fit = rw counted (good.streams, omega (arith, good.layout.lent))

    pub refused_units : (e : Refusal) → Err (number_of e) ≡ unit_table_of l h.units → reading (Err e) ≡ reading_of l
    unfolding answer_of
    refused_units e u =
        let n : number_of e ≡ units_number l (unit_count l) =
        ap number_in u ∙ units_number_lem l h.units ∙ ap (λ (x : Header). units_number l x.units) counted in
        refused_by e
        (first_none _ _ (good_header_is l good) ∙ first_given _ _ (λ z. number_some e (n ∙ z)) ∙ sym n)

    module _ (us : List ℕ) (u : Ok us ≡ unit_table_of l h.units) where
      units_are : us ≡ unit_list l
      unfolding unit_table_of unit_list
      units_are =
          answered_read (units_number l h.units) _ us u ∙ ap (λ (x : Header). table (unit_at l) x.units) counted

      -- past the header and the units, the answer is that of the streams
      answer_streams : answer_of l ≡ number_in (stream_table_of l h.units us h.streams)
      unfolding answer_of
      answer_streams =
          let none : units_number l (unit_count l) ≡ 0 =
          sym (ap (λ (x : Header). units_number l x.units) counted) ∙ sym (units_number_lem l h.units) ∙ sym (ap number_in u) in
          first_none _ _ (good_header_is l good)
          ∙ first_none _ _ none
          ∙ rw (counted, units_are) (sym (streams_number_lem l (unit_count l) (unit_list l) (stream_count l)))

      pub refused_streams : (e : Refusal) → Err (number_of e) ≡ stream_table_of l h.units us h.streams → reading (Err e) ≡ reading_of l
      refused_streams e s = refused_by e (answer_streams ∙ sym (ap number_in s))

      pub all_read : (ss : List Stream) → Ok ss ≡ stream_table_of l h.units us h.streams
          → reading (Ok (record { units = us; streams = ss })) ≡ reading_of l
      unfolding sheet_of stream_table_of stream_list
      all_read ss s =
          let e : ss ≡ stream_list l =
          answered_read (streams_number l h.units us h.streams) _ ss s
          ∙ ap (λ (x : Header). table (stream_at l x.units) x.streams) counted in
          rw (units_are, e) (sym (reading_accepted l (answer_streams ∙ sym (ap number_in s))))
