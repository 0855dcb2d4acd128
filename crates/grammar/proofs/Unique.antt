-- A line has one answer. Assumes nothing.
use Prim.Native.Nat.{ℕ, ◌≤◌, ◌<◌, ◌-◌}
use mathlib.Core.{Path.{◌≡◌, refl, sym, ◌∙◌, ap, ap₂, subst}, List.{List, [], ◌∷◌}}
use native.Mathlib.Omega.{arith}
use lib.{Dec.lit<, ListN.{length, get_or}}
use Rattle.spelling.specs.{Bytes.{All, Byte, up_to}, Decimal.{decimal, greatest}, Hex.hex}
use Rattle.spelling.proofs.{DecimalLaws.decimal_injective, HexLaws.hex_injective, Texts.{decimal_without, hex_without}}
use Rattle.grammar.specs.Form.{Part, fixed, value, Value, number, pairs, Each, NoBlank, Has, RightNumber, RightData, Given, spellings, spell}
use Rattle.grammar.specs.{Table.{Row, row_at}, Line.{said, Matches, NumbersRight, DataRight, LineOf, too_long, no_form, wrong_number, wrong_data, spelt}}
use Rattle.std.specs.Prelude.{Result, Ok, Err}
use Rattle.grammar.specs.declared.{Line.Line, Refusal.{Refusal, TheVariants.{TooLong, NoForm, NotNumber, NotData}}}
use Rattle.grammar.proofs.Fit.{Shaped, edge_after, shaped_after, byte_only, value_only}

-- ---- the values of a line are determined by its form

values_unique : (p : List Part) (s : List ℕ) (vs ws : List (List ℕ)) → Shaped p → Has s p vs → Has s p ws → vs ≡ ws
unfolding Each
values_unique [] s [] [] h f g = refl
values_unique [] s [] (w ∷ ws) h f g = absurd g.fit
values_unique [] s (v ∷ vs) ws h f g = absurd f.fit
values_unique (fixed b ∷ p) s vs ws h f g =
    let d = byte_only s b p vs f in
    let e = byte_only s b p ws g in
    let x : b ∷ d.0 ≡ b ∷ e.0 = sym d.1 ∙ e.1 in
    let u : e.0 ≡ d.0 = cc in
    values_unique p d.0 vs ws h d.2 (subst (λ (l : List ℕ). Has l p ws) u e.2)
values_unique (value q ∷ p) s vs ws h f g =
    let d = value_only q s p vs (edge_after q p h) f in
    let e = value_only q s p ws (edge_after q p h) g in
    d.1 ∙ ap (λ (l : List (List ℕ)). up_to 32 s ∷ l) (values_unique p _ d.0 e.0 (shaped_after q p h) d.2 e.2) ∙ sym e.1

-- ---- what is spelt has the form, with right values

each_spelt : (P : Value → List ℕ → Type 0) → ((n : ℕ) → n ≤ greatest → P number (decimal n)) → ((bs : List ℕ) → 0 < length bs → All Byte bs → P pairs (hex bs))
    → (p : List Part) (ns bs : List ℕ) → Shaped p → Given p ns bs → Each P p (spellings p ns bs)
unfolding Each Given spellings
each_spelt P N D [] ns bs h g = tt
each_spelt P N D (fixed b ∷ p) ns bs h g = each_spelt P N D p ns bs h g
each_spelt P N D (value number ∷ p) [] bs h g = absurd g
each_spelt P N D (value number ∷ p) (n ∷ ns) bs h g = (N n g.0, each_spelt P N D p ns bs h.1 g.1)
each_spelt P N D (value pairs ∷ p) ns bs h g = (D bs g.1 g.2, rw h tt)

pub spelt_has : (p : List Part) (ns bs : List ℕ) → Shaped p → Given p ns bs → Has (spell p ns bs) p (spellings p ns bs)
spelt_has p ns bs h g =
    record {
      laid = refl;
      fit = each_spelt (λ q v. NoBlank v) (λ n l. decimal_without 32 (lit< tt) n) (λ cs l a. hex_without 32 (lit< tt) cs) p ns bs h g;
    }

spelt_numbers : (p : List Part) (ns bs : List ℕ) → Shaped p → Given p ns bs → Each RightNumber p (spellings p ns bs)
spelt_numbers p ns bs h g = each_spelt RightNumber (λ n l. (n, l, refl)) (λ cs l a. tt) p ns bs h g

spelt_datas : (p : List Part) (ns bs : List ℕ) → Shaped p → Given p ns bs → Each RightData p (spellings p ns bs)
spelt_datas p ns bs h g = each_spelt RightData (λ n l. tt) (λ cs l a. (cs, record { some = l; bytes = a; same = refl })) p ns bs h g

spellings_injective : (p : List Part) (ns ms bs cs : List ℕ) → Shaped p → Given p ns bs → Given p ms cs → spellings p ns bs ≡ spellings p ms cs → (ns ≡ ms) × (bs ≡ cs)
unfolding Given spellings
spellings_injective [] ns ms bs cs h g k e = (g.0 ∙ sym k.0, g.1 ∙ sym k.1)
spellings_injective (fixed b ∷ p) ns ms bs cs h g k e = spellings_injective p ns ms bs cs h g k e
spellings_injective (value number ∷ p) [] ms bs cs h g k e = absurd g
spellings_injective (value number ∷ p) (n ∷ ns) [] bs cs h g k e = absurd k
spellings_injective (value number ∷ p) (n ∷ ns) (m ∷ ms) bs cs h g k e =
    let a : decimal n ≡ decimal m = cc in
    let t : spellings p ns bs ≡ spellings p ms cs = cc in
    let r = spellings_injective p ns ms bs cs h.1 g.1 k.1 t in
    (ap₂ (λ (x : ℕ) (l : List ℕ). x ∷ l) (decimal_injective n m a) r.0, r.1)
spellings_injective (value pairs ∷ p) ns ms bs cs h g k e =
    let a : hex bs ≡ hex cs = cc in
    (g.0 ∙ sym k.0, hex_injective bs cs a)

-- ---- one row at most has a line

module _ (rows : List Row) (shapes : (k : ℕ) → k < length rows → Shaped (row_at rows k).form) (apart : (s : List ℕ) (j k : ℕ) (vs ws : List (List ℕ)) → Matches rows s j vs → Matches rows s k ws → j ≡ k) where
  -- what the answer b makes of a line with the form of row k and the values vs
  data Judged (s : List ℕ) (k : ℕ) (vs : List (List ℕ)) (b : Result Line Refusal) : Type 0 where
    number_wrong : b ≡ Err NotNumber → (NumbersRight rows k vs → ⊥) → Judged s k vs b
    data_wrong : b ≡ Err NotData → NumbersRight rows k vs → (DataRight rows k vs → ⊥) → Judged s k vs b
    right : (ns bs : List ℕ) → Given (row_at rows k).form ns bs → vs ≡ spellings (row_at rows k).form ns bs → b ≡ Ok (said ((row_at rows k).says (λ i. get_or ns i 0)) (length s - length (hex bs)) (length s)) → Judged s k vs b

  -- an answer, seen by whether a row has the line
  data View (s : List ℕ) (b : Result Line Refusal) : Type 0 where
    long : 200 < length s → b ≡ Err TooLong → View s b
    none : length s ≤ 200 → ((k : ℕ) (vs : List (List ℕ)) → Matches rows s k vs → ⊥) → b ≡ Err NoForm → View s b
    some : length s ≤ 200 → (k : ℕ) (vs : List (List ℕ)) → Matches rows s k vs → Judged s k vs b → View s b

  view : {s : List ℕ} {b : Result Line Refusal} → LineOf rows s b → View s b
  view (too_long l) = long (omega (arith, l)) refl
  view (no_form l n) = none l n refl
  view (wrong_number k vs l f n) = some l k vs f (number_wrong refl n)
  view (wrong_data k vs l f n d) = some l k vs f (data_wrong refl n d)
  view {s} (spelt l x) =
      let p = (row_at rows x.k).form in
      let h = shapes x.k x.listed in
      some l x.k (spellings p x.numbers x.bytes) (record { listed = x.listed; has = subst (λ (t : List ℕ). Has t p (spellings p x.numbers x.bytes)) (sym x.same) (spelt_has p x.numbers x.bytes h x.given) })
      (right x.numbers x.bytes x.given refl (ap Ok x.answer))

  judged_same : {s : List ℕ} {k : ℕ} {vs : List (List ℕ)} {a b : Result Line Refusal} → Shaped (row_at rows k).form → Judged s k vs a → Judged s k vs b → a ≡ b
  judged_same h (number_wrong e n) (number_wrong f m) = e ∙ sym f
  judged_same h (number_wrong e n) (data_wrong f m d) = absurd (n m)
  judged_same h (number_wrong e n) (right ns bs g v f) = absurd (n (rw v (spelt_numbers _ ns bs h g)))
  judged_same h (data_wrong e n d) (number_wrong f m) = absurd (m n)
  judged_same h (data_wrong e n d) (data_wrong f m c) = e ∙ sym f
  judged_same h (data_wrong e n d) (right ns bs g v f) = absurd (d (rw v (spelt_datas _ ns bs h g)))
  judged_same h (right ns bs g v e) (number_wrong f m) = absurd (m (rw v (spelt_numbers _ ns bs h g)))
  judged_same h (right ns bs g v e) (data_wrong f m d) = absurd (d (rw v (spelt_datas _ ns bs h g)))
  judged_same {k = k} h (right ns bs g v e) (right ms cs i w f) =
      let r = spellings_injective (row_at rows k).form ns ms bs cs h g i (sym v ∙ w) in
      e ∙ rw (r.0, r.1) (sym f)

  view_same : {s : List ℕ} {a b : Result Line Refusal} → View s a → View s b → a ≡ b
  view_same (long l e) (long m f) = e ∙ sym f
  view_same (long l e) (none m n f) = absurd (omega arith)
  view_same (long l e) (some m k vs f j) = absurd (omega arith)
  view_same (none l n e) (long m f) = absurd (omega arith)
  view_same (none l n e) (none m o f) = e ∙ sym f
  view_same (none l n e) (some m k vs f j) = absurd (n k vs f)
  view_same (some l k vs f j) (long m e) = absurd (omega arith)
  view_same (some l k vs f j) (none m n e) = absurd (n k vs f)
  view_same {s} {b = b} (some l k vs f j) (some m i ws g o) =
      let e : i ≡ k = apart s i k ws vs g f in
      let g' = subst (λ (x : ℕ). Matches rows s x ws) e g in
      let u : ws ≡ vs = values_unique (row_at rows k).form s ws vs (shapes k f.listed) g'.has f.has in
      judged_same (shapes k f.listed) j (subst (λ (x : List (List ℕ)). Judged s k x b) u (subst (λ (x : ℕ). Judged s x ws b) e o))

  pub same_answer : (s : List ℕ) (a b : Result Line Refusal) → LineOf rows s a → LineOf rows s b → a ≡ b
  same_answer s a b x y = view_same (view x) (view y)
