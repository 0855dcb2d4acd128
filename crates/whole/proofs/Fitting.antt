-- Which of several texts have room in a buffer: all of them, or those before the first that has none.
use Prim.Native.Nat.{ℕ, ◌+◌, ◌-◌, ◌≤◌, ◌<◌}
use mathlib.Core.{Path.{◌≡◌, refl, sym, ◌∙◌, ap, subst}, Bool.{Bool, true, false}, List.{List, [], ◌∷◌, ◌++◌}}
use native.Mathlib.Omega.{arith}
use lib.{Dec.leb, ListN.{length, take, drop, length-append, take-append-drop}, Seq.length-take-le}
use borrow.Author.Tests.{leb-true, leb-false, le-leb, lt-leb}
use Rattle.protocol.specs.{Pick.pick, Buffers.Bytes}
use Rattle.spelling.specs.Over.{over}
use Rattle.driver.specs.{Play.Fills, declared.Progress.{Progress, TheVariants.{Finished, More, Short as TooShort, Unfit}}}
use Rattle.playing.{specs.Calls.joined, proofs.Pieces.joined_append}
use Rattle.whole.specs.Whole.{fitting, end_of, PutTexts}
use Rattle.std.specs.Prelude.{Some, None}

-- texts that all have room
fitting_all : (n : ℕ) (ts : List Bytes) → length (joined ts) ≤ n → fitting n ts ≡ joined ts
unfolding fitting joined
fitting_all n [] h = refl
fitting_all n (t ∷ ts) h =
    let k : length t + length (joined ts) ≤ n = omega (arith, h, length-append t (joined ts)) in
    rw (le-leb (length t) n (omega (arith, k))) (ap (λ (u : Bytes). t ++ u) (fitting_all (n - length t) ts (omega (arith, k))))

-- texts that have room, before one that has none
fitting_some : (n : ℕ) (ts : List Bytes) (t : Bytes) (us : List Bytes) → length (joined ts) ≤ n → n < length (joined ts) + length t → fitting n (ts ++ (t ∷ us)) ≡ joined ts
unfolding fitting joined
fitting_some n [] t us h k = rw (lt-leb (length t) n (omega (arith, k)))
fitting_some n (u ∷ ts) t us h k =
    let e = length-append u (joined ts) in
    rw (le-leb (length u) n (omega (arith, h, e)))
    (ap (λ (v : Bytes). u ++ v) (fitting_some (n - length u) ts t us (omega (arith, h, e)) (omega (arith, h, k, e))))

-- of the texts ts those that have room in n bytes are t, and the progress g tells whether they are all
pub record Fits (ts : List Bytes) (n : ℕ) (t : Bytes) (g : Progress) : Type 0 where
  pub text : fitting n ts ≡ t
  pub answer : pick (leb (length (joined ts)) n) (Some (length (joined ts))) None ≡ end_of g (length t)

pub fits_all : {n : ℕ} {t : Bytes} (ts : List Bytes) → t ≡ joined ts → length t ≤ n → Fits ts n t Finished
fits_all {n} {t} ts e h =
    record {
      text = fitting_all n ts (omega (arith, h, ap length e)) ∙ sym e;
      answer = rw (le-leb (length (joined ts)) n (omega (arith, h, ap length e)), e);
    }

pub fits_some :
    {n : ℕ} {t : Bytes} {g : Progress} (ts : List Bytes) (u : Bytes) (us : List Bytes) → t ≡ joined ts → length t ≤ n → n < length t + length u
    → end_of g (length t) ≡ None → Fits (ts ++ (u ∷ us)) n t g
unfolding joined
fits_some {n} {t} ts u us e h k s =
    let l = ap length e in
    let m : n < length (joined (ts ++ (u ∷ us))) =
    omega (arith, k, l, ap length (joined_append ts (u ∷ us)), length-append (joined ts) (u ++ joined us), length-append u (joined us)) in
    record {
      text = fitting_some n ts u us (omega (arith, h, l)) (omega (arith, k, l)) ∙ sym e;
      answer = rw (lt-leb (length (joined (ts ++ (u ∷ us)))) n m) (sym s);
    }

-- with u bytes more in the texts, and u more in the buffer, the answer is for the same progress
more_answer :
    (g : Progress) (l n t u : ℕ) (b : Bool) → leb l n ≡ b → pick b (Some l) None ≡ end_of g t
    → pick (leb (u + l) (u + n)) (Some (u + l)) None ≡ end_of g (u + t)
more_answer Finished l n t u true h e = let i : l ≡ t = cc in rw (le-leb (u + l) (u + n) (omega (arith, leb-true l n h)), i)
more_answer Finished l n t u false h e = absurd (let z : ◌≡◌ {A = ℕ} 0 1 = cc in omega arith)
more_answer More l n t u true h e = absurd (let z : ◌≡◌ {A = ℕ} 0 1 = cc in omega arith)
more_answer More l n t u false h e = rw (lt-leb (u + l) (u + n) (omega (arith, leb-false l n h)))
more_answer TooShort l n t u true h e = absurd (let z : ◌≡◌ {A = ℕ} 0 1 = cc in omega arith)
more_answer TooShort l n t u false h e = rw (lt-leb (u + l) (u + n) (omega (arith, leb-false l n h)))
more_answer Unfit l n t u true h e = absurd (let z : ◌≡◌ {A = ℕ} 0 1 = cc in omega arith)
more_answer Unfit l n t u false h e = rw (lt-leb (u + l) (u + n) (omega (arith, leb-false l n h)))

-- a text that has room, before others
pub fits_after : {ts : List Bytes} {n : ℕ} {t : Bytes} {g : Progress} (u : Bytes) → Fits ts n t g → Fits (u ∷ ts) (length u + n) (u ++ t) g
unfolding fitting joined
fits_after {ts} {n} {t} {g} u f =
    let k : length u + n - length u ≡ n = omega arith in
    record {
      text = rw (le-leb (length u) (length u + n) (omega arith), k) (ap (λ (v : Bytes). u ++ v) f.text);
      answer = rw (length-append u (joined ts), length-append u t) (more_answer g (length (joined ts)) n (length t) (length u) (leb (length (joined ts)) n) refl f.answer);
    }

-- ---- in a buffer

-- an output that is filled with texts from its start, as many as have room
pub put_texts :
    {old new : Bytes} {w : ℕ} {ts : List Bytes} {g : Progress} → Fills old new w → Fits ts (length old) (take w new) g → PutTexts old ts new (end_of g w)
put_texts {old} {new} {w} {ts} {g} f x =
    let n : length (take w new) ≡ w = length-take-le w new f.within in
    let m : w ≡ 0 + length (take w new) = omega (arith, n) in
    let whole : new ≡ over old 0 (take w new) =
    sym (take-append-drop w new) ∙ ap (λ (u : Bytes). take w new ++ u) (f.beyond ∙ ap (λ (k : ℕ). drop k old) m) in
    record {
      answer = subst (λ (k : ℕ). end_of g k ≡ pick (leb (length (joined ts)) (length old)) (Some (length (joined ts))) None) n (sym x.answer);
      bytes = whole ∙ ap (over old 0) (sym x.text);
    }
