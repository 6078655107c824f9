use Rattle.diagram_books.proofs.rule_book.DiagramClone.clone.Goals as goal

pub returns : goal.returns
returns g c =
    let b = c.args.self.now in
    let kept = c.result-4-1.given in
    record {
      cases = λ i. record {
        counts = b.counts;
        records = b.records;
        start = b.start;
        index = b.index;
        well = g.N.Node.well_once b.counts.now b.records.now b.start kept.0 b.well i;
        known = g.N.Node.indexed_once b.counts.now b.index kept.1.0 b.known i;
      };
    }
