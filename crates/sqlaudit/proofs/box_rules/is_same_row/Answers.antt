use Rattle.std.proofs.Common.{◌≡◌, ap}
use Rattle.boxes.specs.State.{Settings}
use Rattle.boxes.specs.Rows.{settings_of}
use Rattle.sqlaudit.proofs.box_rules.is_same_row.Goals as goal

pub returns : goal.returns
returns c =
    let a = settings_of c.args.a.now in
    let b = settings_of c.args.b.now in
    let rule : a.rule ≡ b.rule = c.is_same_rule.ensures.0 c.if-not-is_same_rule.false in
    let days : a.days ≡ b.days = c.are_same_days.ensures.0 c.if-not-are_same_days.false in
    let mode : a.mode ≡ b.mode = c.is_same_mode.ensures.0 c.if-not-is_same_mode.false in (
      λ t.
          let n = c.have_same_numbers.ensures.0 t in
          λ i. record { opens = n.opens i; closes = n.closes i; days = days i; from_minute = n.from_minute i; to_minute = n.to_minute i; quota = n.quota i; max_files = n.max_files i; mode = mode i; rule = rule i },
      λ e. c.have_same_numbers.ensures.1 (record {
        opens = ap (λ (s : Settings). s.opens) e;
        closes = ap (λ (s : Settings). s.closes) e;
        from_minute = ap (λ (s : Settings). s.from_minute) e;
        to_minute = ap (λ (s : Settings). s.to_minute) e;
        quota = ap (λ (s : Settings). s.quota) e;
        max_files = ap (λ (s : Settings). s.max_files) e;
      }),
    )
