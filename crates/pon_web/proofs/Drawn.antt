-- A picture of a map that is there.
use Rattle.std.specs.Prelude.{Option, Some, None, Result, Ok, Err, IfOk, IfSome}

pub drawn : {X E H : Type 0} (r : Result (Option X) E) → H → IfOk r (λ d. IfSome d (λ _. H))
drawn (Ok (Some x)) h = h
drawn (Ok None) h = tt
drawn (Err e) h = tt
