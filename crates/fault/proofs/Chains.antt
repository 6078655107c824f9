-- How a chain of questions is answered.
use Rattle.std.proofs.Common.{◌≡◌, ℕ, zero, suc, ◌<◌, Some, None, Option, sym, inl, inr, ⊎_elim, arith}
use Rattle.std.proofs.lemmas.Bool.{cases_lt}
use Rattle.fault.specs.Told.{Told}
use Rattle.fault.specs.Questions.{Chain, Asks, AsksEach, Accepts}

-- a refusal is not accepted
pub refused : {A : Type 0} {x : Told} → Accepts (Some x) → A
refused e = cc

-- the rest may be another one that holds where it does
pub Asks_on : (r : Option Told) (x : Told) (Yes : Type 0) (rest next : Chain) → (rest r → next r) → Asks x Yes rest r → Asks x Yes next r
Asks_on r x Yes rest next f (inl h) = inl (h.0, f h.1)
Asks_on r x Yes rest next f (inr h) = inr h

-- who is accepted answered yes
pub Asks_pass : (x : Told) (Yes : Type 0) (rest : Chain) → Asks x Yes rest None → Yes × rest None
Asks_pass x Yes rest (inl h) = h
Asks_pass x Yes rest (inr h) = cc

module _ (r : Option Told) (ask : ℕ → Chain → Chain) where
  pub each_on : (n : ℕ) (rest next : Chain) → ((i : ℕ) (a b : Chain) → (a r → b r) → ask i a r → ask i b r) → (rest r → next r) → AsksEach n ask rest r → AsksEach n ask next r
  each_on zero rest next mono f h = f h
  each_on (suc n) rest next mono f h = each_on n (ask n rest) (ask n next) mono (mono n rest next f) h

  -- each answered yes
  pub each_all : (n : ℕ) (rest : Chain) → ((i : ℕ) → i < n → (a : Chain) → a r → ask i a r) → rest r → AsksEach n ask rest r
  each_all zero rest pass h = h
  each_all (suc n) rest pass h = each_all n (ask n rest) (λ i k. pass i (omega arith)) (pass n (omega arith) rest h)

  -- number k answered no, and those before it yes
  pub each_stop : (n k : ℕ) (rest : Chain) → k < n → ((i : ℕ) → i < k → (a : Chain) → a r → ask i a r) → ((a : Chain) → ask k a r) → AsksEach n ask rest r
  each_stop zero k rest h pass stop = absurd (omega arith)
  each_stop (suc n) k rest h pass stop =
      ⊎_elim
      (λ (l : k < n). each_stop n k (ask n rest) l pass stop)
      (λ l.
      let e : k ≡ n = omega arith in
      each_all n (ask n rest) (λ i m. pass i (omega arith)) (rw (sym e) (stop rest)))
      (cases_lt k n)

-- who is accepted answered yes to each
pub each_pass : (ask : ℕ → Chain → Chain) (Yes : ℕ → Type 0) → ((i : ℕ) (a : Chain) → ask i a None → Yes i × a None) → (n : ℕ) (rest : Chain) → AsksEach n ask rest None → ((i : ℕ) → i < n → Yes i) × rest None
each_pass ask Yes parts zero rest h = ((λ i k. absurd (omega arith)), h)
each_pass ask Yes parts (suc n) rest h =
    let t = each_pass ask Yes parts n (ask n rest) h in
    let last = parts n rest t.1 in (
      (λ i k.
          ⊎_elim
          (λ (l : i < n). t.0 i l)
          (λ l. let e : i ≡ n = omega arith in rw e last.0)
          (cases_lt i n)),
      last.1,
    )
