-- The values in a box's row.
use Rattle.std.specs.Prelude.{◌≡◌, pos}
use Rattle.boxes.specs.State.{Settings}
use Rattle.sqlchanges.specs.declared.box_rows.BoxValues.{BoxValues}
use Rattle.sqltables.specs.Tables.{mode_number, rule_number, rule_text, days_text}

-- each value is that of the settings
pub record AreValuesOf (values : BoxValues) (settings : Settings) : Type 0 where
  pub opens : pos settings.opens ≡ values.opens
  pub closes : pos settings.closes ≡ values.closes
  pub days : days_text settings.days ≡ values.days.now
  pub from_minute : pos settings.from_minute ≡ values.from_minute
  pub to_minute : pos settings.to_minute ≡ values.to_minute
  pub quota : pos settings.quota ≡ values.quota
  pub max_files : pos settings.max_files ≡ values.max_files
  pub mode : mode_number settings.mode ≡ values.mode
  pub kind : rule_number settings.rule ≡ values.kind
  pub text : rule_text settings.rule ≡ values.text.now
