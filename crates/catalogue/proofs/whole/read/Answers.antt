use Rattle.fault.proofs.Exits.{passed_on}
use Rattle.catalogue.proofs.Stages.{Recorded, kind_stops, features_stop, records_stops, one_stops, start_stops, prices_stop, calls_stop, all_read, the_contents, bits_recorded, columns_recorded, bits_not_recorded, columns_not_recorded}
use Rattle.catalogue.proofs.Verdicts.{denied, accepted, surplus}
use Rattle.catalogue.proofs.whole.read.Goals as goal
use Rattle.catalogue.proofs.whole.read.Goals.{After-entry-2, in-Bit+in_ok-record_count-in-Bit, in-Column+in_ok-record_count-in-Column}

pub returns-in_err-kind : goal.returns-in_err-kind
returns-in_err-kind c =
    rw (passed_on _ _ c.from_residual.ensures) (denied _ _ _ _ _ c.new-reader.ensures (kind_stops _ c.new-reader.ensures _ c.in_err-kind.ensures))

pub returns-in_err-feature_count : goal.returns-in_err-feature_count
returns-in_err-feature_count c =
    rw (passed_on _ _ c.from_residual-in_err-feature_count.ensures) (denied _ _ _ _ _ c.new-reader.ensures (features_stop _ c.new-reader.ensures c.in_ok-kind.ensures _ _ c.in_err-feature_count.ensures))

pub returns-in_err-record_count-in-Bit : goal.returns-in_err-record_count-in-Bit
returns-in_err-record_count-in-Bit c =
    rw (passed_on _ _ c.from_residual-in_err-record_count-in-Bit.ensures) (denied _ _ _ _ _ c.new-reader.ensures (records_stops _ c.new-reader.ensures c.in_ok-kind.ensures c.in_ok-feature_count.ensures _ _ _ (bits_not_recorded _ _ _ _ _ _ c.in-Bit.is c.in_err-record_count-in-Bit.ensures)))

pub returns-in_err-record_count-in-Column : goal.returns-in_err-record_count-in-Column
returns-in_err-record_count-in-Column c =
    rw (passed_on _ _ c.from_residual-in_err-record_count-in-Column.ensures) (denied _ _ _ _ _ c.new-reader.ensures (records_stops _ c.new-reader.ensures c.in_ok-kind.ensures c.in_ok-feature_count.ensures _ _ _ (columns_not_recorded _ _ _ _ _ _ c.in-Column.is c.in_err-record_count-in-Column.ensures)))

-- what stands in the tables of records when they are read
records_done : (c : After-entry-2) → Recorded c.in_ok-kind.kind c.section.new.reader c.match-kind.reader c.args.bits.now c.match-kind.bits c.args.columns.now c.match-kind.columns c.match-kind.record_count
records_done c =
    elim c.match-kind.branch [
      | in-Bit+in_ok-record_count-in-Bit w ↦ rw (w.bits-is, w.columns-is, w.reader-is, w.record_count-is) (bits_recorded _ _ _ _ _ _ _ w.in-Bit.is w.in_ok-record_count-in-Bit.ensures)
      | in-Column+in_ok-record_count-in-Column w ↦ rw (w.bits-is, w.columns-is, w.reader-is, w.record_count-is) (columns_recorded _ _ _ _ _ _ _ w.in-Column.is w.in_ok-record_count-in-Column.ensures)
    ]

pub returns-in_err-entry : goal.returns-in_err-entry
returns-in_err-entry c =
    rw (passed_on _ _ c.from_residual-in_err-entry.ensures) (denied _ _ _ _ _ c.new-reader.ensures (one_stops _ c.new-reader.ensures c.in_ok-kind.ensures c.in_ok-feature_count.ensures c.match-kind.reader _ _ _ (records_done (goal.at.returns-in_err-entry c).After-entry-2) _ c.in_err-entry.ensures))

pub returns-in_err-start : goal.returns-in_err-start
returns-in_err-start c =
    rw (passed_on _ _ c.from_residual-in_err-start.ensures) (denied _ _ _ _ _ c.new-reader.ensures (start_stops _ c.new-reader.ensures c.in_ok-kind.ensures c.in_ok-feature_count.ensures c.match-kind.reader _ _ _ (records_done (goal.at.returns-in_err-start c).After-entry-2) c.in_ok-entry.ensures _ c.in_err-start.ensures))

pub returns-in_err-price_count : goal.returns-in_err-price_count
returns-in_err-price_count c =
    rw (passed_on _ _ c.from_residual-in_err-price_count.ensures) (denied _ _ _ _ _ c.new-reader.ensures (prices_stop _ c.new-reader.ensures c.in_ok-kind.ensures c.in_ok-feature_count.ensures c.match-kind.reader _ _ _ (records_done (goal.at.returns-in_err-price_count c).After-entry-2) c.in_ok-entry.ensures c.in_ok-start.ensures _ _ c.in_err-price_count.ensures))

pub returns-in_err-call_count : goal.returns-in_err-call_count
returns-in_err-call_count c =
    rw (passed_on _ _ c.from_residual-in_err-call_count.ensures) (denied _ _ _ _ _ c.new-reader.ensures (calls_stop _ c.new-reader.ensures c.in_ok-kind.ensures c.in_ok-feature_count.ensures c.match-kind.reader _ _ _ (records_done (goal.at.returns-in_err-call_count c).After-entry-2) c.in_ok-entry.ensures c.in_ok-start.ensures c.in_ok-price_count.ensures _ _ c.in_err-call_count.ensures))

pub returns-in_err-end : goal.returns-in_err-end
returns-in_err-end c =
    let over = c.in_err-end.ensures in
    rw (passed_on _ _ c.from_residual-in_err-end.ensures) (surplus _ _ _ _ _ _ c.new-reader.ensures (all_read _ c.new-reader.ensures c.in_ok-kind.ensures c.in_ok-feature_count.ensures c.match-kind.reader _ _ _ (records_done (goal.at.returns-in_err-end c).After-entry-2) c.in_ok-entry.ensures c.in_ok-start.ensures c.in_ok-price_count.ensures c.in_ok-call_count.ensures) _ over.0 over.1)

pub returns : goal.returns
returns c =
    accepted _ _ _ _ _ _ c.new-reader.ensures (all_read _ c.new-reader.ensures c.in_ok-kind.ensures c.in_ok-feature_count.ensures c.match-kind.reader _ _ _ (records_done (goal.at.returns c).After-entry-2) c.in_ok-entry.ensures c.in_ok-start.ensures c.in_ok-price_count.ensures c.in_ok-call_count.ensures) _ c.in_ok-end.ensures
    (the_contents _ c.new-reader.ensures c.in_ok-kind.ensures c.in_ok-feature_count.ensures c.match-kind.reader _ _ _ (records_done (goal.at.returns c).After-entry-2) c.in_ok-entry.ensures c.in_ok-start.ensures c.in_ok-price_count.ensures c.in_ok-call_count.ensures)
