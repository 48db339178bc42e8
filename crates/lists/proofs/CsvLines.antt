-- Lines in CSV.
use Rattle.std.proofs.Common.{◌≡◌, ◌≢◌, ◌∙◌, ◌++◌, false, List, ℕ, ap, refl, sym, subst}
use Rattle.csv.specs.Writing.{default_writer, fields_written, has_written, row_text, writer_setup}
use Rattle.csv.specs.declared.writer.Writer.{Writer}
use Rattle.csv.specs.declared.writer.QuoteStyle.TheVariants as style
use Rattle.lists.specs.Lists.{line, IsClean}

pub line_is : (fields : List (List ℕ)) → line fields ≡ row_text default_writer fields
unfolding line
line_is fields = refl

necessary : style.Necessary ≢ style.NonNumeric
necessary e = cc

pub plain_style : {W : Type 0} (w : Writer W) → IsClean w → (writer_setup w).style ≢ style.NonNumeric
plain_style w clean = subst (λ s. s.style ≢ style.NonNumeric) (sym clean.setup) necessary

pub line_written : {W : Type 0} (w : Writer W) (old new : List ℕ) (fields : List (List ℕ)) → IsClean w
    → (fields_written w ≡ 0 → has_written w ≡ false → (writer_setup w).style ≢ style.NonNumeric → new ≡ old ++ row_text (writer_setup w) fields)
    → new ≡ old ++ line fields
line_written w old new fields clean said =
    said clean.fields clean.wrote (plain_style w clean) ∙ ap (λ t. old ++ t) (ap (λ g. row_text g fields) clean.setup ∙ sym (line_is fields))
