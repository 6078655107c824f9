-- The parts of a catalogue, in their order. Assumes nothing.
use Rattle.std.proofs.Common.{◌≡◌, ℕ, ◌+◌, ◌-◌, ◌<◌, ◌≤◌, List, [], ◌∷◌, ◌++◌, map, length, take, sym, refl, ap, ◌∙◌, subst, append-nil, arith}
use Rattle.std.specs.List.{AllByRecursion}
use Rattle.std.proofs.lemmas.List.{take_all, length-map}
use Rattle.fault.specs.declared.Fault.{Fault}
use Rattle.text.specs.declared.reader.Reader.{Reader}
use Rattle.text.specs.Fields.{Small}
use Rattle.text.specs.Lines.{ended, Fresh, rest}
use Rattle.text.specs.Layouts.{Refused}
use Rattle.text.proofs.Parts.{Part, Sound, Reads, Stops, next, next_sound, stops_first, Reached, reached_none, reached_next}
use Rattle.diagram.specs.declared.BitNode.{BitNode}
use Rattle.diagram.specs.declared.ColumnNode.{ColumnNode}
use Rattle.catalogue.specs.declared.entries.Call.{Call}
use Rattle.catalogue.specs.declared.entries.Contents.{Contents}
use Rattle.catalogue.specs.declared.entries.Feature.{Feature}
use Rattle.catalogue.specs.declared.entries.Kind.{Kind}
use Rattle.catalogue.specs.declared.entries.Kind.TheVariants.{Bit, Column}
use Rattle.catalogue.specs.declared.entries.One.{One}
use Rattle.catalogue.specs.Forms.{Form, line_of, Lawful, number_form}
use Rattle.catalogue.specs.Sections.{section_lines, section_layout, line_layout, placed, entries, over, filled, Entered, Section, NoSection}
use Rattle.catalogue.specs.Content.{kind_form, one_form, feature_form, bit_form, column_form, call_form, RecordsOf, RecordsGood, RecordsFit, record_lines, Content, Tables}
use Rattle.catalogue.specs.Whole.{bit_table, column_table, record_count, contents}
use Rattle.catalogue.specs.NumberLaws.{number_lawful, bit_lawful, column_lawful}
use Rattle.catalogue.proofs.Filled.{line_coded, line_lines_clean, section_coded, section_clean, placed-length, rows_same, counts_same, take-placed}
use Rattle.catalogue.specs.WordLaws.{kind_lawful, one_lawful, feature_lawful, call_lawful}

-- the section of the records is read, or refused, and the table of the other form is as it was
abbrev pub Recorded : Kind → Reader → Reader → List BitNode → List BitNode → List ColumnNode → List ColumnNode → ℕ → Type 0
Recorded Bit a b bits bits' columns columns' n = Section bit_form a b bits bits' n × (columns' ≡ columns)
Recorded Column a b bits bits' columns columns' n = Section column_form a b columns columns' n × (bits' ≡ bits)

abbrev pub NotRecorded : Kind → Reader → List BitNode → List BitNode → List ColumnNode → List ColumnNode → Fault → Type 0
NotRecorded Bit a bits bits' columns columns' f = NoSection bit_form a bits bits' f × (columns' ≡ columns)
NotRecorded Column a bits bits' columns columns' f = NoSection column_form a columns columns' f × (bits' ≡ bits)

-- a line that fills no table
abbrev pub line_part : {E : Type 0} → Form E → Part Tables
line_part F = record { layout = line_layout F; held = λ k x t. t }

module _ {E : Type 0} (F : Form E) (law : Lawful F) where
  pub line_sound : Sound (line_part F)
  line_sound = record {
    coded = line_coded F law;
    clean = line_lines_clean F law;
    none = λ x t. refl;
    all = λ k x t le. refl;
    same = λ c d ls x y t gc gd ec ed. refl;
    example = law.example;
    good = law.example_good;
    fits = tt;
  }

  pub line_reads : (a b : Reader) (t : Tables) (e : E) (entered : Entered F a b e) → Reads (line_part F) a b t t entered.value
  line_reads a b t e entered = record { good = entered.good; fits = tt; took = entered.took; table = refl }

  pub line_stops : (a : Reader) (t : Tables) (f : Fault) → Refused (line_layout F) a.line (rest a) f → Stops (line_part F) a.line (rest a) t t f
  line_stops a t f refused = record { refused = refused; table = refl }

-- one of the tables: how it is read and replaced
pub record Slot (E : Type 0) : Type 0 where
  pub get : Tables → List E
  pub put : List E → Tables → Tables
  pub back : (t : Tables) → put (get t) t ≡ t

abbrev pub feature_slot : Slot Feature
feature_slot = record { get = λ t. t.features; put = λ l t. record { features = l; bits = t.bits; columns = t.columns; prices = t.prices; calls = t.calls }; back = λ t. refl }

abbrev pub bit_slot : Slot BitNode
bit_slot = record { get = λ t. t.bits; put = λ l t. record { features = t.features; bits = l; columns = t.columns; prices = t.prices; calls = t.calls }; back = λ t. refl }

abbrev pub column_slot : Slot ColumnNode
column_slot = record { get = λ t. t.columns; put = λ l t. record { features = t.features; bits = t.bits; columns = l; prices = t.prices; calls = t.calls }; back = λ t. refl }

abbrev pub price_slot : Slot ℕ
price_slot = record { get = λ t. t.prices; put = λ l t. record { features = t.features; bits = t.bits; columns = t.columns; prices = l; calls = t.calls }; back = λ t. refl }

abbrev pub call_slot : Slot Call
call_slot = record { get = λ t. t.calls; put = λ l t. record { features = t.features; bits = t.bits; columns = t.columns; prices = t.prices; calls = l }; back = λ t. refl }

-- a section that fills a table with the entries that `ents` gives
abbrev pub section_part : {E : Type 0} (F : Form E) (room : ℕ) → (List F.Value → List E) → Slot E → Part Tables
section_part F room ents slot = record { layout = section_layout F room; held = λ k xs t. slot.put (filled k (ents xs) (slot.get t)) t }

pub filled_all : {E : Type 0} (k : ℕ) (xs table : List E) → length xs < k → filled k xs table ≡ over xs table
filled_all k xs table lt = ap (λ l. over l table) (take_all (k - 1) xs (omega arith))

pub section_length : {E : Type 0} (F : Form E) (xs : List F.Value) → length (section_lines F xs) ≡ length xs + 1
section_length F xs = simp length-map (omega arith)

-- the entries of as many values as lines passed are told by these values and the count
abbrev pub Alike : {E : Type 0} (F : Form E) → (List F.Value → List E) → Type 0
Alike F ents = (k : ℕ) (xs ys : List F.Value) → length xs ≡ length ys → take k xs ≡ take k ys → take k (ents xs) ≡ take k (ents ys)

module _ {E : Type 0} (F : Form E) (ents : List F.Value → List E) (long : (xs : List F.Value) → length (ents xs) ≡ length xs) (slot : Slot E) where
  filled_lines : (k : ℕ) (xs : List F.Value) (table : List E) → length (section_lines F xs) ≤ k → filled k (ents xs) table ≡ over (ents xs) table
  filled_lines k xs table le = filled_all k (ents xs) table (omega (arith, section_length F xs, long xs))

  section_same : Lawful F → Alike F ents → (xs ys : List F.Value) (ls x y : List (List ℕ)) (table : List E) → AllByRecursion F.Good xs × Small (length xs) → AllByRecursion F.Good ys × Small (length ys) → section_lines F xs ≡ ls ++ x → section_lines F ys ≡ ls ++ y → filled (length ls) (ents xs) table ≡ filled (length ls) (ents ys) table
  section_same law alike xs ys [] x y table gx gy ex ey = refl
  section_same law alike xs ys (l ∷ ls) x y table gx gy ex ey =
      let less : length (l ∷ ls) - 1 ≡ length ls = omega arith in
      let rows : (zs : List F.Value) (z : List (List ℕ)) → section_lines F zs ≡ l ∷ (ls ++ z) → map (line_of F) zs ≡ ls ++ z = λ zs z e. cc in
      ap (λ l. over l table)
      (ap (λ k. take k (ents xs)) less
      ∙ alike (length ls) xs ys (counts_same F law xs ys l (ls ++ x) (ls ++ y) gx.1 gy.1 ex ey) (rows_same F law xs ys ls x y gx.0 gy.0 (rows xs x ex) (rows ys y ey))
      ∙ ap (λ k. take k (ents ys)) (sym less))

  pub section_sound : Lawful F → Alike F ents → (room : ℕ) → Sound (section_part F room ents slot)
  section_sound law alike room = record {
    coded = section_coded F law room;
    clean = section_clean F law room;
    none = λ xs t. slot.back t;
    same = λ xs ys ls x y t gx gy ex ey. ap (λ l. slot.put l t) (section_same law alike xs ys ls x y (slot.get t) gx gy ex ey);
    all = λ k xs t le. ap (λ l. slot.put l t) (filled_lines k xs (slot.get t) le ∙ sym (filled_lines (length (section_lines F xs)) xs (slot.get t) (omega arith)));
    example = [];
    good = (tt, omega arith);
    fits = omega arith;
  }

  module _ (a : Reader) (t : Tables) (after : List E) (is : (xs : List F.Value) → entries F a.at xs ≡ ents xs) where
    pub section_reads : (b : Reader) (n : ℕ) (section : Section F a b (slot.get t) after n) → Reads (section_part F (length (slot.get t)) ents slot) a b t (slot.put after t) section.values
    section_reads b n section = record {
      good = section.good;
      fits = section.fits;
      took = section.took;
      table = ap (λ l. slot.put l t) (section.table ∙ ap (λ l. over l (slot.get t)) (is section.values) ∙ sym (filled_lines (length (section_lines F section.values)) section.values (slot.get t) (omega arith)));
    }

    pub section_stops : (f : Fault) → NoSection F a (slot.get t) after f → Stops (section_part F (length (slot.get t)) ents slot) a.line (rest a) t (slot.put after t) f
    section_stops f none = record {
      refused = none.refused;
      table = ap (λ l. slot.put l t) (none.table ∙ ap (λ l. filled (length none.refused.passed) l (slot.get t)) (is none.refused.content));
    }

-- entries that are the values themselves
abbrev itself : {X : Type 0} → (X → Type 0) → (X → List (List ℕ)) → Form X
itself {X} Ok write = record { Value = X; Good = Ok; fields = write; entry = λ at x. x }

placed_itself : {X : Type 0} (Ok : X → Type 0) (write : X → List (List ℕ)) (at : ℕ) (xs : List X) → placed (itself Ok write) at xs ≡ xs
placed_itself Ok write at [] = refl
placed_itself Ok write at (x ∷ xs) = ap (λ l. x ∷ l) (placed_itself Ok write (at + length (ended (line_of (itself Ok write) x))) xs)

own_entries : {X : Type 0} (Ok : X → Type 0) (write : X → List (List ℕ)) (at : ℕ) (xs : List X) → entries (itself Ok write) at xs ≡ xs
own_entries Ok write at xs = placed_itself Ok write (at + length (ended (line_of number_form (length xs)))) xs

-- the parts: line 1, the features, the records, the start, the prices, the calls
abbrev pub feature_ents : Kind → List feature_form.Value → List Feature
feature_ents kind xs = entries feature_form (length (ended (line_of kind_form kind))) xs

abbrev pub features_part : Tables → Kind → Part Tables
features_part r kind = section_part feature_form (length r.features) (feature_ents kind) feature_slot

abbrev pub records_part : Tables → Kind → Part Tables
records_part r kind = record {
  layout = record { Content = RecordsOf kind; Good = RecordsGood kind; Fits = λ rs. RecordsFit kind rs r; lines = record_lines kind };
  held = λ k rs t. record { features = t.features; bits = bit_table kind k rs t.bits; columns = column_table kind k rs t.columns; prices = t.prices; calls = t.calls };
}

abbrev pub prices_part : Tables → Part Tables
prices_part r = section_part number_form (length r.prices) (λ xs. xs) price_slot

abbrev pub calls_part : Tables → Part Tables
calls_part r = section_part call_form (length r.calls) (λ xs. xs) call_slot

features_alike : (kind : Kind) → Alike feature_form (feature_ents kind)
features_alike kind k xs ys long e =
    let first = length (ended (line_of kind_form kind)) in
    take-placed feature_form feature_lawful k (first + length (ended (line_of number_form (length xs)))) xs
    ∙ ap (λ n. placed feature_form (first + length (ended (line_of number_form n))) (take k xs)) long
    ∙ ap (placed feature_form (first + length (ended (line_of number_form (length ys))))) e
    ∙ sym (take-placed feature_form feature_lawful k (first + length (ended (line_of number_form (length ys)))) ys)

features_sound : (r : Tables) (kind : Kind) → Sound (features_part r kind)
features_sound r kind = section_sound feature_form (feature_ents kind) (λ xs. placed-length feature_form feature_lawful _ xs) feature_slot feature_lawful (features_alike kind) (length r.features)

records_sound : (r : Tables) (kind : Kind) → Sound (records_part r kind)
records_sound r Bit = section_sound bit_form (λ xs. xs) (λ xs. refl) bit_slot bit_lawful (λ k xs ys n e. e) (length r.bits)
records_sound r Column = section_sound column_form (λ xs. xs) (λ xs. refl) column_slot column_lawful (λ k xs ys n e. e) (length r.columns)

prices_sound : (r : Tables) → Sound (prices_part r)
prices_sound r = section_sound number_form (λ xs. xs) (λ xs. refl) price_slot number_lawful (λ k xs ys n e. e) (length r.prices)

-- the parts from one on
abbrev pub from_calls : Tables → Part Tables
from_calls r = calls_part r

abbrev pub from_prices : Tables → Part Tables
from_prices r = next (prices_part r) (λ xs. from_calls r)

abbrev pub from_start_on : Tables → Part Tables
from_start_on r = next (line_part number_form) (λ n. from_prices r)

abbrev pub from_one : Tables → Part Tables
from_one r = next (line_part one_form) (λ o. from_start_on r)

abbrev pub from_records : Tables → Kind → Part Tables
from_records r kind = next (records_part r kind) (λ rs. from_one r)

abbrev pub from_features : Tables → Kind → Part Tables
from_features r kind = next (features_part r kind) (λ xs. from_records r kind)

abbrev pub from_kind : Tables → Part Tables
from_kind r = next (line_part kind_form) (from_features r)

calls_sound : (r : Tables) → Sound (from_calls r)
calls_sound r = section_sound call_form (λ xs. xs) (λ xs. refl) call_slot call_lawful (λ k xs ys n e. e) (length r.calls)

from_prices_sound : (r : Tables) → Sound (from_prices r)
from_prices_sound r = next_sound (prices_part r) (λ xs. from_calls r) (prices_sound r) (λ xs. calls_sound r)

from_start_sound : (r : Tables) → Sound (from_start_on r)
from_start_sound r = next_sound (line_part number_form) (λ n. from_prices r) (line_sound number_form number_lawful) (λ n. from_prices_sound r)

from_one_sound : (r : Tables) → Sound (from_one r)
from_one_sound r = next_sound (line_part one_form) (λ o. from_start_on r) (line_sound one_form one_lawful) (λ o. from_start_sound r)

from_records_sound : (r : Tables) (kind : Kind) → Sound (from_records r kind)
from_records_sound r kind = next_sound (records_part r kind) (λ rs. from_one r) (records_sound r kind) (λ rs. from_one_sound r)

from_features_sound : (r : Tables) (kind : Kind) → Sound (from_features r kind)
from_features_sound r kind = next_sound (features_part r kind) (λ xs. from_records r kind) (features_sound r kind) (λ xs. from_records_sound r kind)

pub from_kind_sound : (r : Tables) → Sound (from_kind r)
from_kind_sound r = next_sound (line_part kind_form) (from_features r) (line_sound kind_form kind_lawful) (from_features_sound r)

-- a catalogue as the parts one after another, and back
abbrev pub pack : (r : Tables) → Content → (from_kind r).layout.Content
pack r c = (c.kind, (c.features, (c.records, (record {}, (c.start, (c.prices, c.calls))))))

abbrev pub unpack : (r : Tables) → (from_kind r).layout.Content → Content
unpack r v = record { kind = v.0; features = v.1.0; records = v.1.1.0; start = v.1.1.1.1.0; prices = v.1.1.1.1.1.0; calls = v.1.1.1.1.1.1 }

-- the tables when features and records are read
abbrev pub tables : Tables → List Feature → List BitNode → List ColumnNode → Tables
tables r fs bs cs = record { features = fs; bits = bs; columns = cs; prices = r.prices; calls = r.calls }

-- the records, by their kind
module _ (r : Tables) (fs : List Feature) (a : Reader) (bits : List BitNode) (columns : List ColumnNode) where
  pub records_read : (kind : Kind) (b : Reader) (n : ℕ) → Recorded kind a b r.bits bits r.columns columns n → (rs : RecordsOf kind) × (n ≡ record_count kind rs) × Reads (records_part r kind) a b (tables r fs r.bits r.columns) (tables r fs bits columns) rs
  records_read Bit b n h = (
    h.0.values,
    h.0.count,
    subst (λ cs. Reads (records_part r Bit) a b (tables r fs r.bits r.columns) (tables r fs bits cs) h.0.values) (sym h.1)
        (section_reads bit_form (λ xs. xs) (λ xs. refl) bit_slot a (tables r fs r.bits r.columns) bits (own_entries bit_form.Good bit_form.fields a.at) b n h.0),
  )
  records_read Column b n h = (
    h.0.values,
    h.0.count,
    subst (λ bs. Reads (records_part r Column) a b (tables r fs r.bits r.columns) (tables r fs bs columns) h.0.values) (sym h.1)
        (section_reads column_form (λ xs. xs) (λ xs. refl) column_slot a (tables r fs r.bits r.columns) columns (own_entries column_form.Good column_form.fields a.at) b n h.0),
  )

  pub records_stop : (kind : Kind) (f : Fault) → NotRecorded kind a r.bits bits r.columns columns f → Stops (records_part r kind) a.line (rest a) (tables r fs r.bits r.columns) (tables r fs bits columns) f
  records_stop Bit f h =
      subst (λ cs. Stops (records_part r Bit) a.line (rest a) (tables r fs r.bits r.columns) (tables r fs bits cs) f) (sym h.1)
      (section_stops bit_form (λ xs. xs) (λ xs. refl) bit_slot a (tables r fs r.bits r.columns) bits (own_entries bit_form.Good bit_form.fields a.at) f h.0)
  records_stop Column f h =
      subst (λ bs. Stops (records_part r Column) a.line (rest a) (tables r fs r.bits r.columns) (tables r fs bs columns) f) (sym h.1)
      (section_stops column_form (λ xs. xs) (λ xs. refl) column_slot a (tables r fs r.bits r.columns) columns (own_entries column_form.Good column_form.fields a.at) f h.0)

-- what the match on the kind leaves
pub bits_recorded : (k : Kind) (a b : Reader) (bits bits' : List BitNode) (columns : List ColumnNode) (n : ℕ) → k ≡ Bit → Section bit_form a b bits bits' n → Recorded k a b bits bits' columns columns n
bits_recorded k a b bits bits' columns n is section = rw is (section, refl)

pub columns_recorded : (k : Kind) (a b : Reader) (bits : List BitNode) (columns columns' : List ColumnNode) (n : ℕ) → k ≡ Column → Section column_form a b columns columns' n → Recorded k a b bits bits columns columns' n
columns_recorded k a b bits columns columns' n is section = rw is (section, refl)

pub bits_not_recorded : (k : Kind) (a : Reader) (bits bits' : List BitNode) (columns : List ColumnNode) (f : Fault) → k ≡ Bit → NoSection bit_form a bits bits' f → NotRecorded k a bits bits' columns columns f
bits_not_recorded k a bits bits' columns f is none = rw is (none, refl)

pub columns_not_recorded : (k : Kind) (a : Reader) (bits : List BitNode) (columns columns' : List ColumnNode) (f : Fault) → k ≡ Column → NoSection column_form a columns columns' f → NotRecorded k a bits bits columns columns' f
columns_not_recorded k a bits columns columns' f is none = rw is (none, refl)

-- how far the reader has come, and what is refused there
module _ (r : Tables) {s : Reader} {bs : List ℕ} (fresh : Fresh bs s) where
  pub kind_stops : (f : Fault) → Refused (line_layout kind_form) s.line (rest s) f → Stops (from_kind r) s.line (rest s) r r f
  kind_stops f none = stops_first (line_part kind_form) (from_features r) (line_sound kind_form kind_lawful) (from_features_sound r) _ _ r r f (line_stops kind_form kind_lawful s r f none)

  module _ {a : Reader} {k : Kind} (kind : Entered kind_form s a k) where
    abbrev K : Kind
    K = kind.value

    after_kind : Reached (from_kind r) s a r r (from_features r K)
    after_kind = reached_next (from_kind r) s s a r r r (line_part kind_form) (from_features r) (line_sound kind_form kind_lawful) (from_features_sound r) K (reached_none (from_kind r) s r) (line_reads kind_form kind_lawful s a r k kind)

    begins : a.at ≡ length (ended (line_of kind_form K))
    begins = omega (arith, kind.took.at, fresh.at, ap length (append-nil (ended (line_of kind_form K))))

    pub features_stop : (fs : List Feature) (f : Fault) → NoSection feature_form a r.features fs f → Stops (from_kind r) s.line (rest s) r (feature_slot.put fs r) f
    features_stop fs f none =
        after_kind.stops _ f
        (stops_first (features_part r K) (λ xs. from_records r K) (features_sound r K) (λ xs. from_records_sound r K) _ _ _ _ f
        (section_stops feature_form (feature_ents K) (λ xs. placed-length feature_form feature_lawful _ xs) feature_slot a r fs (λ xs. ap (λ p. entries feature_form p xs) begins) f none))

    module _ {b : Reader} {fs : List Feature} {n : ℕ} (features : Section feature_form a b r.features fs n) where
      abbrev t2 : Tables
      t2 = feature_slot.put fs r

      after_features : Reached (from_kind r) s b r t2 (from_records r K)
      after_features =
          reached_next (from_kind r) s a b r r t2 (features_part r K) (λ xs. from_records r K) (features_sound r K) (λ xs. from_records_sound r K) features.values after_kind
          (section_reads feature_form (feature_ents K) (λ xs. placed-length feature_form feature_lawful _ xs) feature_slot a r fs (λ xs. ap (λ p. entries feature_form p xs) begins) b n features)

      pub records_stops : (bits : List BitNode) (columns : List ColumnNode) (f : Fault) → NotRecorded k b r.bits bits r.columns columns f → Stops (from_kind r) s.line (rest s) r (tables r fs bits columns) f
      records_stops bits columns f none =
          after_features.stops _ f
          (stops_first (records_part r K) (λ rs. from_one r) (records_sound r K) (λ rs. from_one_sound r) _ _ _ _ f
          (records_stop r fs b bits columns K f (subst (λ z. NotRecorded z b r.bits bits r.columns columns f) kind.entry none)))

      module _ (c : Reader) (bits : List BitNode) (columns : List ColumnNode) (m : ℕ) (recorded : Recorded k b c r.bits bits r.columns columns m) where
        abbrev t3 : Tables
        t3 = tables r fs bits columns

        pub the_records : (rs : RecordsOf K) × (m ≡ record_count K rs) × Reads (records_part r K) b c t2 t3 rs
        the_records = records_read r fs b bits columns K c m (subst (λ z. Recorded z b c r.bits bits r.columns columns m) kind.entry recorded)

        after_records : Reached (from_kind r) s c r t3 (from_one r)
        after_records = reached_next (from_kind r) s b c r t2 t3 (records_part r K) (λ rs. from_one r) (records_sound r K) (λ rs. from_one_sound r) the_records.0 after_features the_records.2

        pub one_stops : (f : Fault) → Refused (line_layout one_form) c.line (rest c) f → Stops (from_kind r) s.line (rest s) r t3 f
        one_stops f none = after_records.stops t3 f (stops_first (line_part one_form) (λ o. from_start_on r) (line_sound one_form one_lawful) (λ o. from_start_sound r) _ _ t3 t3 f (line_stops one_form one_lawful c t3 f none))

        module _ {d : Reader} {o : One} (one : Entered one_form c d o) where
          after_one : Reached (from_kind r) s d r t3 (from_start_on r)
          after_one = reached_next (from_kind r) s c d r t3 t3 (line_part one_form) (λ o. from_start_on r) (line_sound one_form one_lawful) (λ o. from_start_sound r) one.value after_records (line_reads one_form one_lawful c d t3 o one)

          pub start_stops : (f : Fault) → Refused (line_layout number_form) d.line (rest d) f → Stops (from_kind r) s.line (rest s) r t3 f
          start_stops f none = after_one.stops t3 f (stops_first (line_part number_form) (λ o. from_prices r) (line_sound number_form number_lawful) (λ o. from_prices_sound r) _ _ t3 t3 f (line_stops number_form number_lawful d t3 f none))

          module _ {e : Reader} {v : ℕ} (start : Entered number_form d e v) where
            after_start : Reached (from_kind r) s e r t3 (from_prices r)
            after_start = reached_next (from_kind r) s d e r t3 t3 (line_part number_form) (λ o. from_prices r) (line_sound number_form number_lawful) (λ o. from_prices_sound r) start.value after_one (line_reads number_form number_lawful d e t3 v start)

            pub prices_stop : (ps : List ℕ) (f : Fault) → NoSection number_form e r.prices ps f → Stops (from_kind r) s.line (rest s) r (price_slot.put ps t3) f
            prices_stop ps f none =
                after_start.stops _ f
                (stops_first (prices_part r) (λ xs. from_calls r) (prices_sound r) (λ xs. calls_sound r) _ _ _ _ f
                (section_stops number_form (λ xs. xs) (λ xs. refl) price_slot e t3 ps (own_entries number_form.Good number_form.fields e.at) f none))

            module _ {g : Reader} {ps : List ℕ} {q : ℕ} (prices : Section number_form e g r.prices ps q) where
              abbrev t6 : Tables
              t6 = price_slot.put ps t3

              after_prices : Reached (from_kind r) s g r t6 (from_calls r)
              after_prices =
                  reached_next (from_kind r) s e g r t3 t6 (prices_part r) (λ xs. from_calls r) (prices_sound r) (λ xs. calls_sound r) prices.values after_start
                  (section_reads number_form (λ xs. xs) (λ xs. refl) price_slot e t3 ps (own_entries number_form.Good number_form.fields e.at) g q prices)

              pub calls_stop : (cs : List Call) (f : Fault) → NoSection call_form g r.calls cs f → Stops (from_kind r) s.line (rest s) r (call_slot.put cs t6) f
              calls_stop cs f none = after_prices.stops _ f (section_stops call_form (λ xs. xs) (λ xs. refl) call_slot g t6 cs (own_entries call_form.Good call_form.fields g.at) f none)

              module _ {h : Reader} {cs : List Call} {w : ℕ} (calls : Section call_form g h r.calls cs w) where
                -- all parts are read
                unfoldable pub said_whole : (from_kind r).layout.Content
                said_whole = (K, (features.values, (the_records.0, (one.value, (start.value, (prices.values, calls.values))))))

                pub all_read : Reads (from_kind r) s h r (call_slot.put cs t6) said_whole
                unfolding said_whole after_prices after_start after_one after_records after_features after_kind reached_next reached_none
                all_read = after_prices.reads h _ calls.values (section_reads call_form (λ xs. xs) (λ xs. refl) call_slot g t6 cs (own_entries call_form.Good call_form.fields g.at) h w calls)

                pub the_contents : ◌≡◌ {A = Contents} (record { kind = k; features = n; records = m; start = v; prices = q; calls = w }) (contents (unpack r said_whole))
                unfolding said_whole
                the_contents = λ i. record { kind = kind.entry i; features = features.count i; records = the_records.1 i; start = start.entry i; prices = prices.count i; calls = calls.count i }
