use Rattle.std.proofs.Common.{◌++◌, ap, ◌∙◌, List, ℕ}
use Rattle.std.specs.Int.{w8, to_be_bytes}
use Rattle.pon_record.specs.Events.{event_fields, event_tag}
use Rattle.pon_record.proofs.Put.{put_after, tagged}
use Rattle.pon_record.proofs.writing.entries.put_event.Goals as goal

pub returns : goal.returns
returns c =
    let old = c.args.bytes.now.items in
    let v = c.args.value.now in
    put_after old (to_be_bytes w8 (event_tag v)) (event_fields v) c.put_u8.new.bytes.items c.put_fields.new.bytes.items
    (c.in_ok-put_u8.ensures ∙ ap (λ (n : ℕ). old ++ to_be_bytes w8 n) c.tag_of.ensures) c.in_ok-put_fields.ensures
    ∙ ap (λ (l : List ℕ). old ++ l) (tagged v)
