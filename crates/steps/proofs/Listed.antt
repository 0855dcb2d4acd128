-- The journal that the input gave, played whole or until the output takes no more.
use Rattle.std.proofs.Common.{◌≡◌, sym, subst}
use Rattle.std.specs.Prelude.{Option, Result, Ok, Err, IsErrAnd}
use Rattle.std.specs.declared.io.Error.{Error}
use Rattle.protocol.specs.{Buffers.Bytes, declared.Counts.Counts}
use Rattle.runner.specs.{Moved.Given, Ran.{RanWhole, whole, part}, Runs.{done, unwritten}}
use Rattle.runner.specs.declared.{Texts.TheVariants.Written, streams.Fault.{Fault, TheVariants.Writing}}
use Rattle.runner.proofs.Reading.{Named, ok_of, err_of}
use Rattle.steps.specs.Listed.{Lists}

module _ {T : Type 0} {old new before after : Option Bytes} {journal : Bytes} (v : T) (x : Given old new journal) (r : Result Counts Error)
    (p : RanWhole journal before after Written r) where
  pub all_listed : (k : Counts) → Named Writing r (Ok k) → Lists old new before after (Ok v)
  all_listed k e = go (subst (RanWhole journal before after Written) (ok_of Writing r k e) p)
    where
      go : RanWhole {E = Error} journal before after Written (Ok k) → Lists old new before after (Ok v)
      go (whole p l t g) = done _ _ x l g

  pub part_listed : (s : Result T Fault) (f : Fault) → Named Writing r (Err f) → IsErrAnd s (λ g. g ≡ f) → Lists old new before after s
  part_listed s f e k = let (w, h, i) = err_of Writing r s f e k in subst (Lists old new before after) (sym i) (go (subst (RanWhole journal before after Written) h p))
    where
      go : {w : Error} → RanWhole journal before after Written (Err w) → Lists {T = T} old new before after (Err (Writing w))
      go (part xs rest l g) = unwritten _ xs rest v x l g
