-- The questions of a check in their order, with the refusal that each no leads to. They speak of plain lists and numbers,
-- so that a reader need not know a struct of the code.
use Rattle.std.specs.Prelude.{ℕ, ◌+◌, ◌≤◌, List, length, slice_index, slice_index_or}
use Rattle.fault.specs.Told.{table_fault}
use Rattle.fault.specs.Questions.{Chain, Asks, AsksEach, Accepts}
use Rattle.node.specs.Forms.{Form, FewFeatures, FewValues}
use Rattle.diagram_books.specs.declared.source.Source.{Source}
use Rattle.diagram_books.specs.declared.source.Source.TheVariants.{Catalogue, Memory}

-- the line that a fault names, for an entry that stands in line l of a catalogue
abbrev pub line_in : Source → ℕ → ℕ
line_in Catalogue l = l
line_in Memory l = 0

-- A catalogue has its kind in line 1, the feature count in line 2 and n features below it, then the record count and m
-- records below it, then the count of the start and the start.
abbrev pub feature_line : ℕ → ℕ
feature_line i = 3 + i

abbrev pub record_count_line : List ℕ → ℕ
record_count_line ds = 3 + length ds

abbrev pub record_line : List ℕ → ℕ → ℕ
record_line ds r = 4 + length ds + r

abbrev pub start_line : List ℕ → ℕ → ℕ
start_line ds m = 5 + length ds + m

-- question 1: are there 1 to 24 features, each with 1 to 16 values?
abbrev pub AsksFeatures : Source → List ℕ → Chain → Chain
AsksFeatures s ds rest =
    Asks (table_fault 1 0 (line_in s 2)) (FewFeatures ds)
    (AsksEach (length ds) (λ i. Asks (table_fault 1 i (line_in s (feature_line i))) (FewValues (slice_index ds i))) rest)

-- question 2: are there at most 2,046 records?
abbrev pub AsksSizes : Source → List ℕ → ℕ → Chain → Chain
AsksSizes s ds m rest = AsksFeatures s ds (Asks (table_fault 2 0 (line_in s (record_count_line ds))) (m ≤ 2046) rest)

-- questions 3 and 4 of record r: does what it tests exist, and are both its links allowed?
abbrev pub AsksRecord : {N : Type 0} → Source → Form N → List ℕ → List N → ℕ → Chain → Chain
AsksRecord s form ds rs r rest =
    Asks (table_fault 3 r (line_in s (record_line ds r))) (form.exists ds (slice_index_or rs r form.blank))
    (Asks (table_fault 4 r (line_in s (record_line ds r))) (form.linked ds rs (slice_index_or rs r form.blank)) rest)

-- the records from first to last
abbrev pub AsksRecords : {N : Type 0} → Source → Form N → List ℕ → List N → Chain → Chain
AsksRecords s form ds rs rest = AsksEach (length rs) (AsksRecord s form ds rs) rest

-- question 5: is the start allowed?
abbrev pub AsksBody : {N : Type 0} → Source → Form N → List ℕ → List N → ℕ → Chain → Chain
AsksBody s form ds rs start rest =
    AsksRecords s form ds rs (Asks (table_fault 5 0 (line_in s (start_line ds (length rs)))) (form.starts rs start) rest)

-- all questions of a table
abbrev pub AsksTable : {N : Type 0} → Source → Form N → List ℕ → List N → ℕ → Chain
AsksTable s form ds rs start = AsksSizes s ds (length rs) (AsksBody s form ds rs start Accepts)
