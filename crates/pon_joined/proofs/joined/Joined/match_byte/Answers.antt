use Rattle.std.proofs.Common.{◌≡◌, ◌<◌, ◌≤◌, ◌∷◌, ◌+◌, [], Some, ◌∙◌, ap, arith, refl, sym, subst, length, true, false}
use Rattle.std.specs.Prelude.{option_map, slice_get}
use Rattle.pon_device.specs.Device.{Consumes, IsAtEnd, Keeps}
use Rattle.pon_joined.specs.Joined.{left_of}
use Rattle.pon_joined.specs.States.{JoinedFiles, left_with}
use Rattle.pon_joined.proofs.Steps.{given_one, goes_on, refuses_byte, refuses_end}
use Rattle.pon_joined.proofs.joined.Joined.match_byte.Goals as goal

pub returns-then-is_next-clause-steps : goal.returns-then-is_next-clause-steps
returns-then-is_next-clause-steps g c =
    let next = subst (λ s. slice_get s.magic s.matched ≡ Some c.in-Ok-Some.byte) (sym c.self.view_is) (c.is_next.ensures.0 c.if-is_next.true) in
    let byte : Consumes (g.R.DevRead.remaining c.args.reader) (g.R.DevRead.remaining c.next_byte.new.reader) (c.in-Ok-Some.byte ∷ []) = rw c.in-Ok-Some.field-0-is at c.in-Ok-Some.ensures.byte in
    subst (λ s. Keeps (left_with (g.R.DevRead.remaining c.args.reader) g.S.NextFile.contents s) (left_of c.self.inside.magic.items c.self.inside.given (c.self.inside.matched + 1) (Some (g.R.DevRead.remaining c.next_byte.new.reader)) (g.S.NextFile.contents c.self.inside.files))) c.self.view_is
    (goes_on _ c.self.inside.given c.self.inside.matched c.in-Ok-Some.byte (g.R.DevRead.remaining c.args.reader) (g.R.DevRead.remaining c.next_byte.new.reader) (g.S.NextFile.contents c.self.inside.files) next byte)

pub returns-in-Ok-Some-clause-steps : goal.returns-in-Ok-Some-clause-steps
returns-in-Ok-Some-clause-steps g c =
    let s = c.args.self.now in
    let byte : Consumes (g.R.DevRead.remaining c.args.reader) (g.R.DevRead.remaining c.next_byte.new.reader) (c.in-Ok-Some.byte ∷ []) = rw c.in-Ok-Some.field-0-is at c.in-Ok-Some.ensures.byte in
    let within : s.matched ≤ length s.magic = subst (λ v. v.matched ≤ length v.magic) c.self.view_is c.self.invariant.1 in
    let differs : slice_get s.magic s.matched ≡ Some c.in-Ok-Some.byte → ⊥ = λ is. absurd (let t : false ≡ true = sym c.if-is_next.false ∙ c.is_next.ensures.1 is in cc) in
    given_one _ s.magic s.given s.matched (option_map g.R.DevRead.remaining s.current) (g.S.NextFile.contents s.files) c.refuse.new.buf c.refuse.result (ap (λ r. option_map g.R.DevRead.remaining r) c.requires.ended) c.refuse.ensures.count c.refuse.ensures.byte
    (refuses_byte s.magic s.given s.matched c.in-Ok-Some.byte (g.R.DevRead.remaining c.args.reader) (g.R.DevRead.remaining c.next_byte.new.reader) (g.S.NextFile.contents s.files) c.requires.gave within c.requires.less differs byte)

pub returns-in-Ok-None-clause-steps : goal.returns-in-Ok-None-clause-steps
returns-in-Ok-None-clause-steps g c =
    let s = c.args.self.now in
    let none : Consumes (g.R.DevRead.remaining c.args.reader) (g.R.DevRead.remaining c.next_byte.new.reader) [] × IsAtEnd (g.R.DevRead.remaining c.next_byte.new.reader) = rw c.in-Ok-None.field-0-is at c.in-Ok-None.ensures.byte in
    let within : s.matched ≤ length s.magic = subst (λ v. v.matched ≤ length v.magic) c.self.view_is c.self.invariant.1 in
    let differs : s.matched ≡ length s.magic → ⊥ = λ is. c.if-self-magic_len.false (ap (λ v. v.matched) c.self.view_is ∙ is ∙ sym c.magic_len.ensures) in
    let less : s.matched < length s.magic = omega (arith, within, differs) in
    given_one _ s.magic s.given s.matched (option_map g.R.DevRead.remaining s.current) (g.S.NextFile.contents s.files) c.refuse-in-Ok-None.new.buf c.refuse-in-Ok-None.result (ap (λ r. option_map g.R.DevRead.remaining r) c.requires.ended) c.refuse-in-Ok-None.ensures.count c.refuse-in-Ok-None.ensures.byte
    (refuses_end s.magic s.given s.matched (g.R.DevRead.remaining c.args.reader) (g.R.DevRead.remaining c.next_byte.new.reader) (g.S.NextFile.contents s.files) c.requires.gave less none.0 none.1)
