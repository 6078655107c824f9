-- How the questions of a table are answered.
use Rattle.std.proofs.Common.{◌≡◌, ℕ, ◌<◌, ◌≤◌, List, length, get_or, Some, None, Option, refl, inl, inr}
use Rattle.fault.specs.Told.{Told, table_fault}
use Rattle.fault.specs.Questions.{Chain, Asks, AsksEach, Accepts}
use Rattle.fault.proofs.Chains.{Asks_on, Asks_pass, each_on, each_all, each_stop, each_pass, refused}
use Rattle.node.specs.Forms.{Form, FewFeatures, FewValues, Well}
use Rattle.diagram_books.specs.declared.source.Source.{Source}
use Rattle.diagram_books.specs.Checks.{line_in, feature_line, record_count_line, record_line, start_line, AsksFeatures, AsksSizes, AsksRecord, AsksRecords, AsksBody, AsksTable}

-- a question that is answered by no, where the fault names the line l
pub stopped : (Yes : Type 0) (rest : Chain) (n place l l' : ℕ) → (Yes → ⊥) → l ≡ l' → Asks (table_fault n place l') Yes rest (Some (table_fault n place l))
stopped Yes rest n place l l' never e = inr (never, cc)

module _ (s : Source) (ds : List ℕ) where
  abbrev AskValues : ℕ → Chain → Chain
  AskValues i = Asks (table_fault 1 i (line_in s (feature_line i))) (FewValues (get_or ds i 0))

  abbrev AllValues : Chain → Chain
  AllValues = AsksEach (length ds) AskValues

  pub features_all : FewFeatures ds → ((i : ℕ) → i < length ds → FewValues (get_or ds i 0)) → AsksFeatures s ds Accepts None
  features_all few each = inl (few, each_all None AskValues (length ds) Accepts (λ i h a k. inl (each i h, k)) refl)

  -- feature k has no value, or too many, and no feature before it
  pub features_stop : (k l : ℕ) → FewFeatures ds → k < length ds → ((i : ℕ) → i < k → FewValues (get_or ds i 0)) → (FewValues (get_or ds k 0) → ⊥) → l ≡ line_in s (feature_line k) → AsksFeatures s ds Accepts (Some (table_fault 1 k l))
  features_stop k l few h each never e =
      inl (few, each_stop (Some (table_fault 1 k l)) AskValues (length ds) k Accepts h (λ i m a j. inl (each i m, j)) (λ a. stopped _ a 1 k l _ never e))

  features_on : (r : Option Told) (rest next : Chain) → (rest r → next r) → AsksFeatures s ds rest r → AsksFeatures s ds next r
  features_on r rest next f =
      Asks_on r _ _ (AllValues rest) (AllValues next) (each_on r AskValues (length ds) rest next (λ i a b. Asks_on r _ _ a b) f)

  pub features_pass : (rest : Chain) → AsksFeatures s ds rest None → FewFeatures ds × ((i : ℕ) → i < length ds → FewValues (get_or ds i 0)) × rest None
  features_pass rest h =
      let first = Asks_pass _ _ (AllValues rest) h in
      let each = each_pass AskValues (λ i. FewValues (get_or ds i 0)) (λ i a. Asks_pass _ _ a) (length ds) rest first.1 in
      (first.0, each.0, each.1)

  pub sizes_on : (m : ℕ) (r : Option Told) (rest next : Chain) → (rest r → next r) → AsksSizes s ds m rest r → AsksSizes s ds m next r
  sizes_on m r rest next f = features_on r _ _ (Asks_on r _ _ rest next f)

  -- the features were refused already
  pub sizes_early : (m : ℕ) (x : Told) → AsksFeatures s ds Accepts (Some x) → AsksSizes s ds m Accepts (Some x)
  sizes_early m x h = features_on (Some x) Accepts _ refused h

  pub sizes_late : (m : ℕ) (r : Option Told) → AsksFeatures s ds Accepts None → Asks (table_fault 2 0 (line_in s (record_count_line ds))) (m ≤ 2046) Accepts r → AsksSizes s ds m Accepts r
  sizes_late m r h last =
      let p = features_pass Accepts h in
      inl (p.0, each_all r AskValues (length ds) _ (λ i k a j. inl (p.1 i k, j)) last)

  pub sizes_pass : (m : ℕ) (rest : Chain) → AsksSizes s ds m rest None → FewFeatures ds × ((i : ℕ) → i < length ds → FewValues (get_or ds i 0)) × (m ≤ 2046) × rest None
  sizes_pass m rest h =
      let p = features_pass _ h in
      let q = Asks_pass _ _ rest p.2 in
      (p.0, p.1, q.0, q.1)

  module _ {N : Type 0} (form : Form N) (rs : List N) where
    abbrev pub Fine : ℕ → Type 0
    Fine i = form.exists ds (get_or rs i form.blank) × form.linked ds rs (get_or rs i form.blank)

    abbrev AsksLinks : ℕ → Chain → Chain
    AsksLinks i = Asks (table_fault 4 i (line_in s (record_line ds i))) (form.linked ds rs (get_or rs i form.blank))

    fine_on : (r : Option Told) (i : ℕ) → Fine i → (a : Chain) → a r → AsksRecord s form ds rs i a r
    fine_on r i w a h = inl (w.0, inl (w.1, h))

    record_on : (r : Option Told) (i : ℕ) (a b : Chain) → (a r → b r) → AsksRecord s form ds rs i a r → AsksRecord s form ds rs i b r
    record_on r i a b f = Asks_on r _ _ (AsksLinks i a) (AsksLinks i b) (Asks_on r (table_fault 4 i (line_in s (record_line ds i))) _ a b f)

    pub records_all : ((i : ℕ) → i < length rs → Fine i) → (rest : Chain) (r : Option Told) → rest r → AsksRecords s form ds rs rest r
    records_all each rest r h = each_all r (AsksRecord s form ds rs) (length rs) rest (λ i k. fine_on r i (each i k)) h

    -- record k is refused, and the records before it are fine
    pub records_stop : (k : ℕ) (x : Told) → k < length rs → ((i : ℕ) → i < k → Fine i) → AsksRecord s form ds rs k Accepts (Some x) → AsksRecords s form ds rs Accepts (Some x)
    records_stop k x h each refusal =
        each_stop _ (AsksRecord s form ds rs) (length rs) k Accepts h (λ i m. fine_on _ i (each i m)) (λ a. record_on (Some x) k Accepts a refused refusal)

    pub records_pass : (rest : Chain) → AsksRecords s form ds rs rest None → ((i : ℕ) → i < length rs → Fine i) × rest None
    records_pass rest h =
        each_pass (AsksRecord s form ds rs) Fine
        (λ i a k. let p = Asks_pass _ _ (AsksLinks i a) k in let q = Asks_pass (table_fault 4 i (line_in s (record_line ds i))) _ a p.1 in ((p.0, q.0), q.1))
        (length rs) rest h

    records_on : (r : Option Told) (rest next : Chain) → (rest r → next r) → AsksRecords s form ds rs rest r → AsksRecords s form ds rs next r
    records_on r rest next f = each_on r (AsksRecord s form ds rs) (length rs) rest next (record_on r) f

    module _ (start : ℕ) where
      pub body_early : (x : Told) → AsksRecords s form ds rs Accepts (Some x) → AsksBody s form ds rs start Accepts (Some x)
      body_early x h = records_on (Some x) Accepts _ refused h

      pub body_late : (r : Option Told) → AsksRecords s form ds rs Accepts None → Asks (table_fault 5 0 (line_in s (start_line ds (length rs)))) (form.starts rs start) Accepts r → AsksBody s form ds rs start Accepts r
      body_late r h last = records_all (records_pass Accepts h).0 _ r last

      -- the sizes were refused already
      pub table_early : (x : Told) → AsksSizes s ds (length rs) Accepts (Some x) → AsksTable s form ds rs start (Some x)
      table_early x h = sizes_on (length rs) (Some x) Accepts _ refused h

      pub table_late : (r : Option Told) → AsksSizes s ds (length rs) Accepts None → AsksBody s form ds rs start Accepts r → AsksTable s form ds rs start r
      table_late r h body =
          let p = sizes_pass (length rs) Accepts h in
          inl (p.0, each_all r AskValues (length ds) _ (λ i k a j. inl (p.1 i k, j)) (inl (p.2, body)))

      -- a table that is accepted is well-formed
      pub table_well : AsksTable s form ds rs start None → Well form ds rs start
      table_well h =
          let p = sizes_pass (length rs) _ h in
          let q = records_pass _ p.3 in
          let last = Asks_pass _ _ Accepts q.1 in
          (p.0, p.1, p.2, q.0, last.0)
