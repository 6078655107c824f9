-- A reader, line after line. Assumes nothing.
use Rattle.std.proofs.Common.{◌≡◌, ℕ, ◌+◌, List, [], ◌++◌, length, sym, refl, ap, ◌∙◌, append_assoc, arith, length-append}
use Rattle.text.specs.declared.reader.Reader.{Reader}
use Rattle.text.specs.Lines.{text_of, rest, Took}
use Rattle.text.proofs.Layouts.{text-append}

pub took_none : (a : Reader) → Took a a []
took_none a = record { same = refl; front = refl; at = omega arith; line = omega arith }

pub took_more : (a b c : Reader) (ls ms : List (List ℕ)) → Took a b ls → Took b c ms → Took a c (ls ++ ms)
took_more a b c ls ms p q =
    let long : length (text_of (ls ++ ms)) ≡ length (text_of ls) + length (text_of ms) = ap length (text-append ls ms) ∙ length-append (text_of ls) (text_of ms) in
    record {
      same = q.same ∙ p.same;
      front = p.front ∙ ap (λ l. text_of ls ++ l) q.front ∙ sym (append_assoc (text_of ls) (text_of ms) (rest c)) ∙ ap (λ l. l ++ rest c) (sym (text-append ls ms));
      at = omega (arith, p.at, q.at, long);
      line = simp length-append (omega (arith, p.line, q.line));
    }
