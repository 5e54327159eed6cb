use Rattle.std.proofs.Common.{◌≡◌, ◌+◌, Some, sym, subst, take}
use Rattle.std.specs.Prelude.{option_map, slice_get, slice_set}
use Rattle.pon_device.specs.Device.{Consumes}
use Rattle.pon_joined.specs.Joined.{left_of}
use Rattle.pon_joined.specs.States.{left_in}
use Rattle.pon_joined.proofs.Steps.{front_byte, gives_magic}
use Rattle.pon_joined.proofs.joined.Joined.step.Goals as goal

pub returns-in-Some-clause-steps : goal.returns-in-Some-clause-steps
returns-in-Some-clause-steps g c =
    let s = c.self.inside in
    let moved = gives_magic s.magic.items s.given s.matched c.in-Some.byte (option_map g.R.DevRead.remaining s.current) (g.S.NextFile.contents s.files) (subst (λ v. slice_get v.magic s.given ≡ Some c.in-Some.byte) (sym c.self.view_is) (sym c.in-Some.ensures)) in (
      subst (λ old. Consumes (left_in g.R.DevRead.remaining g.S.NextFile.contents old) (left_of s.magic.items (s.given + 1) s.matched (option_map g.R.DevRead.remaining s.current) (g.S.NextFile.contents s.files)) (take 1 (slice_set c.args.buf.now 0 c.in-Some.byte))) c.self.view_is
          (subst (λ front. Consumes (left_of s.magic.items s.given s.matched (option_map g.R.DevRead.remaining s.current) (g.S.NextFile.contents s.files)) (left_of s.magic.items (s.given + 1) s.matched (option_map g.R.DevRead.remaining s.current) (g.S.NextFile.contents s.files)) front) (sym (front_byte c.args.buf.now c.in-Some.byte c.requires.some)) moved),
      λ z. absurd (let t : 1 ≡ 0 = z in cc),
    )
