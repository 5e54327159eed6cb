use Rattle.std.proofs.Common.{rules, arith, ap, sym, ◌∙◌, ◌≤◌, ◌≡◌, ◌+◌, ◌-◌, take, drop, length}
use Rattle.std.proofs.lemmas.List.{length-append, length-drop}
use Rattle.pon_device.specs.Memory.{ReadMemory}
use Rattle.pon_device.proofs.Pieces.{read_piece, read_end}
use Rattle.pon_device.proofs.memory.MemReadDevRead.read.Goals as goal

pub returns-clause-bytes : goal.returns-clause-bytes
returns-clause-bytes c =
    let s = c.self.inside in
    let n = c.min-n.result in
    let after = drop n c.args.buf.now in
    let whole : c.deref-2.result.now ≡ s.bytes.items = search rules in
    let long : c.len.result ≡ length s.bytes.items = search rules in
    let fits : s.at ≤ length s.bytes.items = c.self.invariant.0 in
    let copied : c.copy_from_slice.new.self ≡ take ((s.at + n) - s.at) (drop s.at s.bytes.items)
    = c.copy_from_slice.ensures.after ∙ ap (λ t. take ((s.at + n) - s.at) (drop s.at t)) whole in (
      ap (λ (v : ReadMemory). v.left) (sym c.self.view_is) ∙ read_piece s.bytes.items c.copy_from_slice.new.self after s.at n (omega (arith, c.min.ensures, c.min-n.ensures, long, fits)) copied,
      λ z room. read_end s.bytes.items s.at n (omega (arith, c.min.ensures, c.min-n.ensures, long, fits, z, room, c.self.invariant.1, ap length copied, length-append c.copy_from_slice.new.self after, length-drop n c.args.buf.now, c.copy_from_slice.ensures.len)),
    )
