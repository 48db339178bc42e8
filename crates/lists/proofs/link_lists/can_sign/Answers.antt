use Rattle.std.proofs.Common.{◌≡◌, ◌∙◌, true, sym}
use Rattle.sigtext.specs.Bytes.{IsWord, is_visible}
use Rattle.sigv4.specs.Credential.{IsKeyId, IsRegion}
use Rattle.links.proofs.Texts.{clash}
use Rattle.lists.proofs.link_lists.can_sign.Goals as goal
use Rattle.lists.proofs.link_lists.can_sign.Goals.{then-is_host, else-is_host, then-is_region, else-is_region}

pub returns-then-is_key_id : goal.returns-then-is_key_id
returns-then-is_key_id c = (
  λ t. record { host = place.0; region = place.1; key_id = key.0; secret = c.is_secret.ensures.0 t },
  λ can. c.is_secret.ensures.1 can.secret,
)
  where
    key : IsKeyId c.args.key.now.id.now × (c.if-is_host.value ≡ true)
    key = elim c.if-is_region.branch [
      | then-is_region w ↦ (w.is_key_id.ensures.0 (sym w.value-is ∙ c.if-is_key_id.true), w.if-is_region.true)
      | else-is_region w ↦ absurd (clash _ w.if-is_region.false (sym w.value-is ∙ c.if-is_key_id.true))
    ]

    place : IsWord is_visible 255 c.args.host.now × IsRegion c.args.region.now
    place = elim c.if-is_host.branch [
      | then-is_host w ↦ (c.is_host.ensures.0 w.if-is_host.true, w.is_region.ensures.0 (sym w.value-is ∙ key.1))
      | else-is_host w ↦ absurd (clash _ w.if-is_host.false (sym w.value-is ∙ key.1))
    ]
