-- Lists that are accepted.
use Rattle.std.specs.Prelude.{◌≡◌, Result, Ok, Err}
use Rattle.wire.specs.Bytes.{Bytes}
use Rattle.format.specs.Library.{Options}
use Rattle.format.specs.Refusals.{check_exports}
use Rattle.format.specs.declared.Refusal.{Refusal}
use Rattle.coff.specs.declared.machines.Machine.{Machine}

-- a list that is accepted, with its machine; or its refusal from 1 to 14
pub data AcceptedAs (o : Options) (b : Bytes) : Result Machine Refusal → Type 0 where
  taken : {m : Machine} → check_exports o b ≡ Ok tt → m.number ≡ o.machine → AcceptedAs o b (Ok m)
  refused : {r : Refusal} → check_exports o b ≡ Err r → AcceptedAs o b (Err r)
