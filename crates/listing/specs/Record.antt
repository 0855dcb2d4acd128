-- What the programs print, byte for byte: a record for each call and the end line (01, "Journal and driver"), and the tally's line (02, One).
-- Assumes nothing.
use Rattle.std.specs.Prelude.{ℕ, List, [], ◌++◌}
use Rattle.spelling.specs.{Text.text, Decimal.decimal, Hex.hex}
use Rattle.protocol.specs.declared.{Place.Place, Name.{Name, TheVariants.{Open, Ask, Recall, Share, Renew, Own, Drop, Evict, Writeback, Advance, Yield, Take, Victim}}}
use Rattle.protocol.specs.{declared.{Counts.Counts, Given.{Given, TheVariants.{Bytes, Digits}}}, Step.{Op, load, store, fence, Reply, refused, done, commit}}

-- "done is open, ask, recall, share, renew, own, drop, evict, advance, yield or take"; 02, Two: "they print `done=drop` and `done=writeback`";
-- Four: victim "prints `done=victim line=N`"
abbrev pub name_text : Name → List ℕ
name_text Open = text "open"
name_text Ask = text "ask"
name_text Recall = text "recall"
name_text Share = text "share"
name_text Renew = text "renew"
name_text Own = text "own"
name_text Drop = text "drop"
name_text Evict = text "evict"
name_text Writeback = text "writeback"
name_text Advance = text "advance"
name_text Yield = text "yield"
name_text Take = text "take"
name_text (Victim l) = text "victim line=" ++ decimal l

-- "n is the place": 01 prints `n=0 done=open`, `n=6 refused=25`. A record ends with a newline
abbrev pub done_text : ℕ → Name → List ℕ
done_text n d = text "n=" ++ decimal n ++ text " done=" ++ name_text d ++ text "\n"

abbrev pub refused_text : ℕ → ℕ → List ℕ
refused_text n r = text "n=" ++ decimal n ++ text " refused=" ++ decimal r ++ text "\n"

-- a commit's kind; its line and its data, which a fence has not: "a fence prints core and ts"
abbrev pub kind_text : {A : Type 0} → Op A → List ℕ
kind_text (load l b) = text "load"
kind_text (store l b) = text "store"
kind_text fence = text "fence"

abbrev pub line_text : {A : Type 0} → Op A → List ℕ
line_text (load l b) = text " line=" ++ decimal l
line_text (store l b) = text " line=" ++ decimal l
line_text fence = []

-- H of 01, "lower-case hex pairs": bytes are printed in hex, digits as they are
abbrev pub text_as : Given → List ℕ → List ℕ
text_as Bytes b = hex b
text_as Digits b = b

abbrev pub data_text : Given → Op (List ℕ) → List ℕ
data_text g (load l b) = text " data=" ++ text_as g b
data_text g (store l b) = text " data=" ++ text_as g b
data_text g fence = []

-- 01 prints `n=4 commit=store core=0 line=0 ts=1 data=07` and `n=5 commit=load core=0 line=0 ts=0 data=07`
abbrev pub commit_text : Given → ℕ → ℕ → ℕ → Op (List ℕ) → List ℕ
commit_text g n c t o =
    text "n=" ++ decimal n ++ text " commit=" ++ kind_text o ++ text " core=" ++ decimal c ++ line_text o ++ text " ts=" ++ decimal t ++ data_text g o
    ++ text "\n"

-- the record of the call at a place, by what it answered, with a commit's data as bytes or as digits
unfoldable pub record_as : Given → Place → Reply → List ℕ
record_as g p (refused n) = refused_text p.0 n
record_as g p (done d) = done_text p.0 d
record_as g p (commit c t o) = commit_text g p.0 c t.0 o

-- the same with its bytes
abbrev pub record_text : Place → Reply → List ℕ
record_text p r = record_as Bytes p r

-- "The end line counts step lines met, .. commits, and `refused=` lines above it": 01 prints `end=6 commits=2 refused=1`
unfoldable pub end_text : Counts → List ℕ
end_text k =
    text "end=" ++ decimal k.steps ++ text " commits=" ++ decimal k.commits ++ text " refused=" ++ decimal k.refusals ++ text "\n"

-- "one line `loads= stores= fences= asks= shares= renews= owns=`"
unfoldable pub tally_text : Counts → List ℕ
tally_text k =
    text "loads=" ++ decimal k.loads ++ text " stores=" ++ decimal k.stores ++ text " fences=" ++ decimal k.fences
    ++ text " asks=" ++ decimal k.asks ++ text " shares=" ++ decimal k.shares ++ text " renews=" ++ decimal k.renews
    ++ text " owns=" ++ decimal k.owns ++ text "\n"
