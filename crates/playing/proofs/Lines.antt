-- The lines of a listing: each has one newline, its last byte; the line of a commit tells the commit, and is no other line.
use Prim.Native.Nat.{ℕ}
use mathlib.Core.{Path.{◌≡◌, refl, sym, ◌∙◌, ap, ap₂}, Bool.true, List.{List, [], ◌∷◌, ◌++◌, append_assoc, append-nil}}
use native.Mathlib.Omega.{arith}
use lib.{Dec.lit<, ListN.get_or}
use Rattle.spelling.{specs.{Text.text, Decimal.decimal, Hex.hex}, proofs.HexLaws.hex_injective}
use Rattle.spelling.proofs.Texts.{decimal_without, hex_without, without, told_without, cut_text, cut_at, cut_number, Line, last, line_after}
use Rattle.protocol.specs.{Buffers.Bytes, Step.{Op, load, store, fence}, Run.Commit, declared.{Counts.Counts, Given.TheVariants.Bytes as InBytes}}
use Rattle.protocol.specs.declared.Name.{Name, TheVariants.{Open, Ask, Recall, Share, Renew, Own, Drop, Evict, Writeback, Advance, Yield, Take, Victim}}
use Rattle.listing.specs.Record.{name_text, done_text, refused_text, commit_text, end_text}
use Rattle.playing.specs.Printed.{commit_line, OtherLine, a_done, a_refusal, an_end}

-- ---- the texts of the lines, from the front

-- a record: its place, a blank, and what follows
abbrev placed : ℕ → List ℕ → List ℕ
placed n r = text "n=" ++ (decimal n ++ (32 ∷ r))

-- what follows of a load and of a store, from the text before the core on
abbrev access : List ℕ → ℕ → ℕ → ℕ → Bytes → List ℕ
access commit c l t b =
    commit ++ (decimal c ++ (text " line=" ++ (decimal l ++ (text " ts=" ++ (decimal t ++ (text " data=" ++ (hex b ++ text "\n")))))))

-- what follows of a commit
abbrev rest : ℕ → ℕ → Op Bytes → List ℕ
rest c t (load l b) = access (text "commit=load core=") c l t b
rest c t (store l b) = access (text "commit=store core=") c l t b
rest c t fence = text "commit=fence core=" ++ (decimal c ++ (text " ts=" ++ (decimal t ++ text "\n")))

commit_text_lem : (n c t : ℕ) (o : Op Bytes) → commit_text InBytes n c t o ≡ placed n (rest c t o)
commit_text_lem n c t o = go o
  where
    access_groups : (a b c d e f g h i j k l m : List ℕ)
        → a ++ b ++ c ++ d ++ e ++ f ++ (g ++ h) ++ i ++ j ++ (k ++ l) ++ m
        ≡ a ++ (b ++ ((c ++ (d ++ e)) ++ (f ++ (g ++ (h ++ (i ++ (j ++ (k ++ (l ++ m)))))))))
    access_groups a b c d e f g h i j k l m = simp append_assoc

    fence_groups : (a b c d e f g h i : List ℕ)
        → a ++ b ++ c ++ d ++ e ++ f ++ [] ++ g ++ h ++ [] ++ i ≡ a ++ (b ++ ((c ++ (d ++ e)) ++ (f ++ (g ++ (h ++ i)))))
    fence_groups a b c d e f g h i = simp (append_assoc, append-nil)

    go : (o : Op Bytes) → commit_text InBytes n c t o ≡ placed n (rest c t o)
    go (load l b) =
        access_groups (text "n=") (decimal n) (text " commit=") (text "load") (text " core=") (decimal c) (text " line=") (decimal l) (text " ts=") (decimal t)
        (text " data=") (hex b) (text "\n")
    go (store l b) =
        access_groups (text "n=") (decimal n) (text " commit=") (text "store") (text " core=") (decimal c) (text " line=") (decimal l) (text " ts=") (decimal t)
        (text " data=") (hex b) (text "\n")
    go fence = fence_groups (text "n=") (decimal n) (text " commit=") (text "fence") (text " core=") (decimal c) (text " ts=") (decimal t) (text "\n")

-- the line of a commit
from_front : (e : Commit Bytes) → commit_line e ≡ placed e.place.0 (rest e.core e.ts.0 e.op)
from_front e = commit_text_lem e.place.0 e.core e.ts.0 e.op

-- the other records
five : (a b c d e : List ℕ) → a ++ b ++ c ++ d ++ e ≡ a ++ (b ++ (c ++ (d ++ e)))
five a b c d e = simp append_assoc

done_text_lem : (n : ℕ) (d : Name) → done_text n d ≡ placed n (text "done=" ++ (name_text d ++ text "\n"))
done_text_lem n d = five (text "n=") (decimal n) (text " done=") (name_text d) (text "\n")

refused_text_lem : (n r : ℕ) → refused_text n r ≡ placed n (text "refused=" ++ (decimal r ++ text "\n"))
refused_text_lem n r = five (text "n=") (decimal n) (text " refused=") (decimal r) (text "\n")

-- the end line
abbrev ending : Counts → List ℕ
ending k =
    text "end=" ++ (decimal k.steps ++ (text " commits=" ++ (decimal k.commits ++ (text " refused=" ++ (decimal k.refusals ++ text "\n")))))

end_text_lem : (k : Counts) → end_text k ≡ ending k
unfolding end_text
end_text_lem k = seven (text "end=") (decimal k.steps) (text " commits=") (decimal k.commits) (text " refused=") (decimal k.refusals) (text "\n")
  where
    seven : (a b c d e f g : List ℕ) → a ++ b ++ c ++ d ++ e ++ f ++ g ≡ a ++ (b ++ (c ++ (d ++ (e ++ (f ++ g)))))
    seven a b c d e f g = simp append_assoc

-- ---- each is a line

-- a known text before a line
text_line : (t : List ℕ) {l : List ℕ} → without 10 t ≡ true → Line l → Line (t ++ l)
text_line t e x = line_after t (told_without 10 t e) x

-- a key and its number before a line
number_line : (key : List ℕ) (n : ℕ) {l : List ℕ} → without 10 key ≡ true → Line l → Line (key ++ (decimal n ++ l))
number_line key n e x = text_line key e (line_after (decimal n) (decimal_without 10 (lit< tt) n) x)

placed_line : (n : ℕ) {r : List ℕ} → Line r → Line (placed n r)
placed_line n x = number_line (text "n=") n refl (text_line (text " ") refl x)

name_line : (d : Name) → Line (name_text d ++ text "\n")
name_line Open = text_line (text "open") refl last
name_line Ask = text_line (text "ask") refl last
name_line Recall = text_line (text "recall") refl last
name_line Share = text_line (text "share") refl last
name_line Renew = text_line (text "renew") refl last
name_line Own = text_line (text "own") refl last
name_line Drop = text_line (text "drop") refl last
name_line Evict = text_line (text "evict") refl last
name_line Writeback = text_line (text "writeback") refl last
name_line Advance = text_line (text "advance") refl last
name_line Yield = text_line (text "yield") refl last
name_line Take = text_line (text "take") refl last
name_line (Victim l) = number_line (text "victim line=") l refl last

pub other_line : {v : Bytes} → OtherLine v → Line v
other_line (a_done n d) = rw (done_text_lem n d) (placed_line n (text_line (text "done=") refl (name_line d)))
other_line (a_refusal n r) = rw (refused_text_lem n r) (placed_line n (number_line (text "refused=") r refl last))
other_line (an_end k) =
    rw (end_text_lem k)
    (number_line (text "end=") k.steps refl (number_line (text " commits=") k.commits refl (number_line (text " refused=") k.refusals refl last)))

access_line : (commit : List ℕ) (c l t : ℕ) (b : Bytes) → without 10 commit ≡ true → Line (access commit c l t b)
access_line commit c l t b e =
    let d = text_line (text " data=") refl (line_after (hex b) (hex_without 10 (lit< tt) b) last) in
    number_line commit c e (number_line (text " line=") l refl (number_line (text " ts=") t refl d))

rest_line : (c t : ℕ) (o : Op Bytes) → Line (rest c t o)
rest_line c t (load l b) = access_line (text "commit=load core=") c l t b refl
rest_line c t (store l b) = access_line (text "commit=store core=") c l t b refl
rest_line c t fence = number_line (text "commit=fence core=") c refl (number_line (text " ts=") t refl last)

pub commit_line_lem : (e : Commit Bytes) → Line (commit_line e)
commit_line_lem e = rw (from_front e) (placed_line e.place.0 (rest_line e.core e.ts.0 e.op))

-- ---- the line of a commit tells the commit

access_same : (commit : List ℕ) (c l t : ℕ) (b : Bytes) (c' l' t' : ℕ) (b' : Bytes) → access commit c l t b ≡ access commit c' l' t' b'
    → (c ≡ c') × (l ≡ l') × (t ≡ t') × (b ≡ b')
access_same commit c l t b c' l' t' b' e =
    let i = cut_number 32 (lit< tt) commit c c' _ _ e in
    let j = cut_number 32 (lit< tt) (text "line=") l l' _ _ i.1 in
    let k = cut_number 32 (lit< tt) (text "ts=") t t' _ _ j.1 in
    let d = cut_at 10 (hex b) (hex b') [] [] (hex_without 10 (lit< tt) b) (hex_without 10 (lit< tt) b') (cut_text (text "data=") _ _ k.1) in
    (i.0, j.0, k.0, hex_injective b b' d.0)

-- the same core, timestamp, and operation
record Same (c t : ℕ) (o : Op Bytes) (c' t' : ℕ) (o' : Op Bytes) : Type 0 where
  core : c ≡ c'
  ts : t ≡ t'
  op : o ≡ o'

-- the three kinds differ in their first letter
rest_same : (c t : ℕ) (o : Op Bytes) (c' t' : ℕ) (o' : Op Bytes) → rest c t o ≡ rest c' t' o' → Same c t o c' t' o'
rest_same c t (load l b) c' t' (load l' b') e =
    let i = access_same (text "commit=load core=") c l t b c' l' t' b' e in record { core = i.0; ts = i.2; op = ap₂ load i.1 i.3 }
rest_same c t (load l b) c' t' (store l' b') e = absurd (let z : ◌≡◌ {A = ℕ} 108 115 = cc in omega arith)
rest_same c t (load l b) c' t' fence e = absurd (let z : ◌≡◌ {A = ℕ} 108 102 = cc in omega arith)
rest_same c t (store l b) c' t' (load l' b') e = absurd (let z : ◌≡◌ {A = ℕ} 115 108 = cc in omega arith)
rest_same c t (store l b) c' t' (store l' b') e =
    let i = access_same (text "commit=store core=") c l t b c' l' t' b' e in record { core = i.0; ts = i.2; op = ap₂ store i.1 i.3 }
rest_same c t (store l b) c' t' fence e = absurd (let z : ◌≡◌ {A = ℕ} 115 102 = cc in omega arith)
rest_same c t fence c' t' (load l' b') e = absurd (let z : ◌≡◌ {A = ℕ} 102 108 = cc in omega arith)
rest_same c t fence c' t' (store l' b') e = absurd (let z : ◌≡◌ {A = ℕ} 102 115 = cc in omega arith)
rest_same c t fence c' t' fence e =
    let i = cut_number 32 (lit< tt) (text "commit=fence core=") c c' _ _ e in
    let j = cut_number 10 (lit< tt) (text "ts=") t t' [] [] i.1 in
    record { core = i.0; ts = j.0; op = refl }

-- a commit is its place, core, timestamp and operation
abbrev made : ℕ → ℕ → ℕ → Op Bytes → Commit Bytes
made n c t o = record { place = record { 0 = n }; core = c; ts = record { 0 = t }; op = o }

pub commit_same : (x y : Commit Bytes) → commit_line x ≡ commit_line y → x ≡ y
commit_same x y e =
    let i = cut_number 32 (lit< tt) (text "n=") x.place.0 y.place.0 _ _ (sym (from_front x) ∙ e ∙ from_front y) in
    let s = rest_same x.core x.ts.0 x.op y.core y.ts.0 y.op i.1 in
    ap₂ (λ (n c : ℕ). made n c x.ts.0 x.op) i.0 s.core ∙ ap₂ (λ (t : ℕ) (o : Op Bytes). made y.place.0 y.core t o) s.ts s.op

-- ---- and it is no other line

-- what follows its place begins with the letter c
rest_first : (c t : ℕ) (o : Op Bytes) → get_or (rest c t o) 0 0 ≡ 99
rest_first c t (load l b) = refl
rest_first c t (store l b) = refl
rest_first c t fence = refl

not_record : (x : Commit Bytes) (n : ℕ) (r : List ℕ) → (get_or r 0 0 ≡ 99 → ⊥) → commit_line x ≡ placed n r → ⊥
not_record x n r h e =
    let i = cut_number 32 (lit< tt) (text "n=") x.place.0 n _ r (sym (from_front x) ∙ e) in
    h (ap (λ (l : List ℕ). get_or l 0 0) (sym i.1) ∙ rest_first x.core x.ts.0 x.op)

pub not_other : (x : Commit Bytes) {v : Bytes} → OtherLine v → commit_line x ≡ v → ⊥
not_other x (a_done n d) e = not_record x n (text "done=" ++ (name_text d ++ text "\n")) (λ z. omega arith) (e ∙ done_text_lem n d)
not_other x (a_refusal n r) e = not_record x n (text "refused=" ++ (decimal r ++ text "\n")) (λ z. omega arith) (e ∙ refused_text_lem n r)
not_other x (an_end k) e = let z : ◌≡◌ {A = ℕ} 110 101 = ap (λ (l : List ℕ). get_or l 0 0) (sym (from_front x) ∙ e ∙ end_text_lem k) in omega arith
