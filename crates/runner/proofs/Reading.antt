-- What was read is the journal that the input gave, and what was written its text or a beginning of it.
use Prim.Native.Nat.{ℕ}
use mathlib.Core.{Path.{◌≡◌, refl, sym, subst}}
use native.Mathlib.Omega.{arith}
use lib.ListN.{length, take, drop}
use Rattle.std.specs.Prelude.{Option, Result, Ok, Err, MatchResult, IsErrAnd}
use Rattle.std.proofs.{Common.{take-append-drop, ap, ◌∙◌}, KnownBytes.Keeps-refl, lemmas.Result.err_from_is_err_and}
use Rattle.protocol.specs.Buffers.{Bytes}
use Rattle.std.specs.declared.io.Error.{Error}
use Rattle.runner.specs.{Input.ReadInto, Moved.{Given, Took, Gave, GaveSome}, Runs.{Runs, done, unread, unwritten}}
use Rattle.runner.specs.declared.streams.Fault.{Fault, TheVariants.{Reading, Writing}}

-- ---- a call of which `map_err` names what failed

-- r is what the call answered, and s the same with the error named
abbrev pub Named : {T : Type 0} → (Error → Fault) → Result T Error → Result T Fault → Type 0
Named name r s = MatchResult r (λ v. s ≡ Ok v) (λ e. IsErrAnd s (λ f. f ≡ name e))

pub ok_of : {T : Type 0} (name : Error → Fault) (r : Result T Error) (v : T) → Named name r (Ok v) → r ≡ Ok v
ok_of name (Ok x) v h = cc
ok_of name (Err e) v h = absurd h

-- `?` hands on what failed
pub err_of :
    {T U : Type 0} (name : Error → Fault) (r : Result T Error) (s : Result U Fault) (f : Fault) → Named name r (Err f) → IsErrAnd s (λ g. g ≡ f)
    → (e : Error) × (r ≡ Err e) × (s ≡ Err (name e))
err_of name (Ok x) s f h k = absurd (let z : ◌≡◌ {A = ℕ} 0 1 = cc in omega arith)
err_of name (Err e) s f h k = let p = err_from_is_err_and s k in (e, refl, p.1 ∙ ap Err (p.2 ∙ h))

-- ---- what a program read

-- the journal that it has
pub given :
    {old new : Option Bytes} (n : ℕ) (r : Result ℕ Error) (buffer : Bytes) → Named Reading r (Ok n) → ReadInto r buffer → Took old new r buffer
    → length buffer ≡ 65537 → Given old new (take n buffer)
given {old} {new} n r buffer e c t l =
    let c' = subst (λ (s : Result ℕ Error). ReadInto s buffer) (ok_of Reading r n e) c in
    let t' = subst (λ (s : Result ℕ Error). Took old new s buffer) (ok_of Reading r n e) t in
    record {
      gave = t'.0;
      most = omega (arith, c'.0, c'.1, l);
      all = λ h. t'.1 (omega (arith, h, c'.1, l));
    }

-- a text that was not written whole
pub stopped_at :
    {T : Type 0} {IsAnswer : Bytes → T → Bytes → Type 0} {old new before after : Option Bytes} {e : _} (journal text : Bytes) (v : T) → Given old new journal
    → IsAnswer journal v text → GaveSome before after text → Runs IsAnswer old new before after (Err (Writing e))
stopped_at {IsAnswer = IsAnswer} journal text v x a (n, h, g) =
    unwritten journal (take n text) (drop n text) v x (subst (IsAnswer journal v) (sym (take-append-drop n text)) a) g

module _ {T : Type 0} {IsAnswer : Bytes → T → Bytes → Type 0} {old new : Option Bytes} where
  -- a read that failed
  pub read_failed :
      {U : Type 0} {out : Option Bytes} (r : Result U Error) (s : Result T Fault) (f : Fault) → Named Reading r (Err f) → IsErrAnd s (λ g. g ≡ f)
      → Runs IsAnswer old new out out s
  read_failed {out = out} r s f e k =
      let p = err_of Reading r s f e k in
      subst (Runs IsAnswer old new out out) (sym p.2) (unread (Keeps-refl out))

  -- ---- what it wrote of a text, where v is what it answers

  write_stopped :
      {journal : Bytes} {before after : Option Bytes} (text : Bytes) (v : T) → Given old new journal → IsAnswer journal v text → {e : Error}
      → GaveSome before after text → Runs IsAnswer old new before after (Err (Writing e))
  write_stopped {journal} text v x a b = stopped_at journal text v x a b

  module _ {journal : Bytes} (text : Bytes) (v : T) {before after : Option Bytes} (x : Given old new journal) (a : IsAnswer journal v text) where
    pub written : {U : Type 0} (r : Result U Error) (u : U) → Named Writing r (Ok u) → Gave before after r text → Runs IsAnswer old new before after (Ok v)
    written r u e g = done journal text x a (subst (λ (s : Result _ Error). Gave before after s text) (ok_of Writing r u e) g)

    pub write_failed :
        {U : Type 0} (r : Result U Error) (s : Result T Fault) (f : Fault) → Named Writing r (Err f) → IsErrAnd s (λ g. g ≡ f) → Gave before after r text
        → Runs IsAnswer old new before after s
    write_failed r s f e k g =
        let p = err_of Writing r s f e k in
        subst (Runs IsAnswer old new before after) (sym p.2) (write_stopped text v x a (subst (λ (q : Result _ Error). Gave before after q text) p.1 g))

  -- a write whose error is named is all that is left to do
  pub wrote :
      {journal : Bytes} {before after : Option Bytes} (text : Bytes) (v : T) → Given old new journal → ((u : T) → IsAnswer journal u text) → (r : Result T Error)
      (s : Result T Fault) → Named Writing r s → Gave before after r text → Runs IsAnswer old new before after s
  wrote {before = before} {after} text v x a (Ok u) s e g = subst (Runs IsAnswer old new before after) (sym e) (done _ _ x (a u) g)
  wrote {before = before} {after} text v x a (Err w) s e g =
      let p = err_from_is_err_and s e in
      subst (Runs IsAnswer old new before after) (sym (p.1 ∙ ap Err p.2)) (write_stopped _ v x (a v) g)
