-- Nothing of a script was served.
use Rattle.std.specs.Prelude.{ℕ, List, [], Option, Some, None, IfSome, true}
use Rattle.std.proofs.Common.{refl, arith}
use Rattle.std.proofs.KnownBytes.{Appends-nil}
use Rattle.go_wire_core.specs.declared.serving.ServeEnd.TheVariants.{Memory}
use Rattle.go_wire_core.specs.Lines.{lines}
use Rattle.go_wire_core.specs.Steps.{wire}
use Rattle.govisd_service.specs.desks.Desks.{no_sessions}
use Rattle.govisd_service.specs.Ends.{IsScript}

pub unserved : (bytes : List ℕ) (left out : Option (List ℕ)) → IsScript Memory bytes left out out
unserved bytes left out = record {
  seats = no_sessions;
  ends = record {
    before = [];
    more = [];
    rest = wire true (lines bytes);
    whole = refl;
    few = omega arith;
    between = no_sessions;
    served = record { out = []; done = (refl, refl); written = Appends-nil out };
    line = [];
    done = (refl, refl);
  };
}

pub none_served : (known left out : Option (List ℕ)) → IfSome known (λ bytes. IsScript Memory bytes left out out)
none_served None left out = tt
none_served (Some bytes) left out = unserved bytes left out
