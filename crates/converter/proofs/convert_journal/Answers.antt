-- What was read is converted, and the output got the result, a beginning of it, or nothing of a journal that is refused.
use Rattle.std.proofs.Common.{refl, sym, length-take-le}
use Rattle.std.proofs.KnownBytes.{Appends-nil}
use Rattle.std.specs.{Prelude.{Option, Ok}, Io.KnownBytes.{Appends}}
use Rattle.protocol.specs.Buffers.{Bytes}
use Rattle.runner.specs.{Moved.Given, Runs.{Runs, done}}
use Rattle.runner.proofs.Reading.{given, read_failed, written, write_failed}
use Rattle.converter.proofs.Writing.{result_within}
use Rattle.converter.proofs.convert_journal.Goals as goal

pub returns-in_err-n : goal.returns-in_err-n
returns-in_err-n g c = read_failed c.read_input.result c.from_residual.result _ c.in_err-n.ensures.cases c.from_residual.ensures.1

pub slice_bounds-out-end : goal.slice_bounds-out-end
slice_bounds-out-end g c = result_within c.convert-converted.ensures c.in-Ok.is

pub slice_bounds-write_all-end : goal.slice_bounds-write_all-end
slice_bounds-write_all-end g c = sym (length-take-le _ _ (result_within c.convert-converted.ensures c.in-Ok.is))

pub returns-in_err-map_err-in-Ok : goal.returns-in_err-map_err-in-Ok
returns-in_err-map_err-in-Ok g c =
    write_failed _ _ (given _ c.read_input.result _ c.in_ok-n.ensures.cases c.read_input.ensures.count c.read_input.ensures.bytes c.read_input.array_long)
    (record { buffer = c.convert-converted.new.out; converts = c.in-Ok.ensures; is = refl }) c.write_all.result
    c.from_residual-in_err-map_err-in-Ok.result _ c.in_err-map_err-in-Ok.ensures.cases c.from_residual-in_err-map_err-in-Ok.ensures.1
    c.write_all.ensures.bytes

pub returns-in_ok-map_err-in-Ok : goal.returns-in_ok-map_err-in-Ok
returns-in_ok-map_err-in-Ok g c =
    written _ _ (given _ c.read_input.result _ c.in_ok-n.ensures.cases c.read_input.ensures.count c.read_input.ensures.bytes c.read_input.array_long)
    (record { buffer = c.convert-converted.new.out; converts = c.in-Ok.ensures; is = refl }) c.write_all.result _
    c.in_ok-map_err-in-Ok.ensures.cases c.write_all.ensures.bytes

-- a refused journal is done with, and v is what is answered
answered :
    {T : Type 0} {IsAnswer : Bytes → T → Bytes → Type 0} {old new before after : Option Bytes} (journal text : Bytes) (v : T) → Given old new journal
    → IsAnswer journal v text → Appends before after text → Runs IsAnswer old new before after (Ok v)
answered journal text v x a w = done journal text x a w

pub returns-in-Err : goal.returns-in-Err
returns-in-Err g c =
    answered _ _ c.convert-converted.result
    (given _ c.read_input.result _ c.in_ok-n.ensures.cases c.read_input.ensures.count c.read_input.ensures.bytes c.read_input.array_long)
    (record { buffer = c.convert-converted.new.out; converts = c.convert-converted.ensures; is = rw c.in-Err.is refl }) (Appends-nil _)
