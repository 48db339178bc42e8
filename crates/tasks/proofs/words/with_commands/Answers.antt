use Rattle.std.proofs.Common.{Bor, ◌≡◌, ◌∙◌, ◌<◌, ◌+◌, ℕ, List, length, get_or, take, ap, sym, arith}
use Rattle.std.proofs.lemmas.List.{take_all}
use Rattle.std.proofs.lemmas.List.Sums.{fold_more}
use Rattle.clap.specs.Words.{App, with_subcommand}
use Rattle.tasks.specs.Building.{app_in, lined}
use Rattle.tasks.specs.declared.words.Form.{Form}
use Rattle.tasks.proofs.words.with_commands.Goals as goal

-- a command line grows by the command of the next form
grown : (start : App) (forms : List (Bor Form)) (i : ℕ) (d : Bor Form) (app new : App) → i < length forms → app ≡ lined start (take i forms)
    → new ≡ with_subcommand app (app_in (get_or forms i d).now).top → new ≡ lined start (take (i + 1) forms)
grown start forms i d app new below is added =
    added ∙ ap (λ a. with_subcommand a (app_in (get_or forms i d).now).top) is ∙ sym (fold_more (λ a f. with_subcommand a (app_in f.now).top) start forms i d below)

pub loop-form-preserved : goal.loop-form-preserved
loop-form-preserved c = grown _ _ _ _ _ _ c.loop-form-test.true c.loop-form.invariant (c.in_ok-line.ensures _ c.built.ensures)

pub returns : goal.returns
returns c app is = rw (← is, ← take_all _ _ c.loop-form-test.false) c.loop-form.invariant

pub offset_bounds-forms-form-index : goal.offset_bounds-forms-form-index
offset_bounds-forms-form-index c = grind arith
