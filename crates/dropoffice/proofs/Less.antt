-- The clauses of commands where less is called a success, or more is known of a step.
use Rattle.std.proofs.Common.{◌⊎◌, ⊎_elim, inl, inr, ℕ, List, Option}
use Rattle.std.specs.declared.net.socket_addr.SocketAddrV4.{SocketAddrV4}
use Rattle.sqlite_disk.specs.declared.Disk as disk
use Rattle.sqlite.specs.Recovery.{Image}
use Rattle.boxes.specs.State.{State as Office}
use Rattle.sockets.specs.Listening.{Event}
use Rattle.tasks.specs.declared.task.Desk.{Desk}
use Rattle.tasks.specs.declared.task.Listing.{Listing}
use Rattle.tasks.specs.declared.task.Replay.{Replay}
use Rattle.tasks.specs.declared.task.Serve.{Serve}
use Rattle.tasks.specs.declared.task.Task.{Task}
use Rattle.tasks.specs.declared.task.Task.TheVariants as task
use Rattle.wire.specs.declared.gathered.Gathered.{Gathered}
use Rattle.wire.specs.declared.outbox.Outbox.{Outbox}
use Rattle.commands.specs.Asking.{Asked}
use Rattle.commands.specs.Listing.{Compares, Looks, Writes, IsManifest}
use Rattle.commands.specs.Obeying.{done_line}
use Rattle.commands.specs.Saying.{HandsBack, Says}
use Rattle.commands.specs.Serving.{NeverListens}
use Rattle.commands.specs.declared.serving.Ending.{Ending}
use Rattle.commands.proofs.Crowds.{less}
use Rattle.commands.proofs.Lines.{given}
use Rattle.dropoffice.specs.Holding.{HoldsEither, HoldsState, ShowsHeld}
use Rattle.dropoffice.specs.Leaving.{IsSpared, Migrated, Ran}
use Rattle.dropoffice.specs.Performing.{Answers, Commands, Lists, MayMigrate, MayRun, Performs, Serves, Unless}
use Rattle.dropoffice.specs.declared.left.Left.{Left}

module _ {F D : Type 0} {g : disk.Ghosts D} where
  ran_more : (Step Next : Office → Office → Asked → Type 0) → ((s after : Office) (asked : Asked) → Step s after asked → Next s after asked) → (image : Image) (rest : Left F D g) → Ran image rest Step → Ran image rest Next
  ran_more Step Next so image rest ran = record {
    before = ran.before;
    after = ran.after;
    asked = ran.asked;
    held = ran.held;
    means = ran.means;
    step = so ran.before ran.after ran.asked ran.step;
    crash = ran.crash;
  }

  -- another step, and another end where none was made
  pub run_more : (Step Next : Office → Office → Asked → Type 0) (Idle Other : Type 0) → ((s after : Office) (asked : Asked) → Step s after asked → Next s after asked) → (Idle → Other)
      → (image : Image) (start : F) (rest : Left F D g) → MayRun image start rest Idle Step → MayRun image start rest Other Next
  run_more Step Next Idle Other so fails image start rest it = ⊎_elim
      (λ (ran : Ran image rest Step). inl (ran_more Step Next so image rest ran))
      (λ (idle : Idle × IsSpared image start (ShowsHeld image (HoldsState image)) rest). inr (fails idle.0, idle.1))
      it

pub unless_more : {Case This That Other : Type 0} → (That → Other) → Unless Case This That → Unless Case This Other
unless_more more it = (it.0, λ other. more (it.1 other))

module _ {Done Next : Type 0} (so : Next → Done) where
  pub fails_less : {Made Spared : Type 0} → Made ⊎ ((Done → ⊥) × Spared) → Made ⊎ ((Next → ⊥) × Spared)
  fails_less {Made = Made} {Spared = Spared} it = ⊎_elim (λ (made : Made). inl made) (λ (idle : (Done → ⊥) × Spared). inr ((λ next. idle.0 (so next)), idle.1)) it

  module _ {W : Type 0} (contents : W → Option (List ℕ)) (old : W) (new : Option W) where
    pub back_less : HandsBack Done old new → HandsBack Next old new
    back_less it = ((λ next. it.0 (so next)), it.1)

    says_less : (text : List ℕ) → Says contents text Done old new → Says contents text Next old new
    says_less text it = λ next. it (so next)

    pub commands_less : (input : Option (List ℕ)) (words : Desk) (s after : Office) (asked : Asked) → Commands input words contents Done old new s after asked → Commands input words contents Next old new s after asked
    commands_less input words s after asked it = record {
      command = it.command;
      is_command = it.is_command;
      tells = (given it.command so s after asked it.tells.0, says_less done_line it.tells.1);
    }

    pub writes_less : (IsText : Office → List ℕ → Type 0) (s after : Office) (asked : Asked) → Writes contents IsText Done old new s after asked → Writes contents IsText Next old new s after asked
    writes_less IsText s after asked it = record { looks = it.looks; wrote = λ next. it.wrote (so next) }

    pub compares_less : (input : Option (List ℕ)) (s after : Office) (asked : Asked) → Compares contents input Done old new s after asked → Compares contents input Next old new s after asked
    compares_less input s after asked it = record { looks = it.looks; wrote = λ next. it.wrote (so next) }

    pub lists_less : (words : Listing) (s after : Office) (asked : Asked) → Lists words contents Done old new s after asked → Lists words contents Next old new s after asked
    lists_less words s after asked it = record {
      stock = it.stock;
      named = it.named;
      writes = record { looks = it.writes.looks; wrote = λ next. it.writes.wrote (so next) };
    }

    pub answers_less : (words : Replay) (s after : Office) (asked : Asked) → Answers words contents Done old new s after asked → Answers words contents Next old new s after asked
    answers_less words s after asked it = record {
      moment = it.moment;
      is_moment = it.is_moment;
      replays = record {
        out = it.replays.out;
        back = it.replays.back;
        served = it.replays.served;
        faults = it.replays.faults;
        bound = it.replays.bound;
        turn = it.replays.turn;
        were_asked = it.replays.were_asked;
        whole = λ next. it.replays.whole (so next);
      };
    }

  pub never_less : {N L E C : Type 0} (outside : N) (ending : Ending N L E C) → NeverListens Done outside ending → NeverListens Next outside ending
  never_less outside ending it = ((λ next. it.0 (so next)), it.1)

  module _ {N L S E C : Type 0} (listens : SocketAddrV4 → L → Type 0) (begins : C → Type 0) (gives : C → ℕ → C → Type 0) (told : L → List (Event S E) → Type 0) (are_ends : S → E → E → Type 0)
      (remaining : Gathered E → Option (List ℕ)) (contents : Outbox E → Option (List ℕ)) (words : Serve) (outside : N) (ending : Ending N L E C) where
    pub serves_less : (s after : Office) (asked : Asked) → Serves listens begins gives told are_ends remaining contents words Done outside ending s after asked
        → Serves listens begins gives told are_ends remaining contents words Next outside ending s after asked
    serves_less s after asked it = record {
      address = it.address;
      limits = it.limits;
      named = it.named;
      serves = less listens begins gives told are_ends remaining contents it.address it.limits Done Next outside ending so s after asked it.serves;
    }

  module _ {F D : Type 0} {g : disk.Ghosts D} (image : Image) (start : F) (rest : Left F D g) where
    pub looks_less : MayRun image start rest (Done → ⊥) Looks → MayRun image start rest (Next → ⊥) Looks
    looks_less it = run_more Looks Looks (Done → ⊥) (Next → ⊥) (λ s after asked looks. looks) (λ fails next. fails (so next)) image start rest it

    module _ {W : Type 0} (written : W → Option (List ℕ)) (old : W) (new : Option W) where
      pub speaks_less : (Step After : Office → Office → Asked → Type 0) → ((s after : Office) (asked : Asked) → Step s after asked → After s after asked)
          → MayRun image start rest (HandsBack Done old new) Step → MayRun image start rest (HandsBack Next old new) After
      speaks_less Step After more it = run_more Step After (HandsBack Done old new) (HandsBack Next old new) more (back_less written old new) image start rest it

      pub migrates_less : MayMigrate image start rest written Done old new → MayMigrate image start rest written Next old new
      migrates_less it = ⊎_elim
          (λ (done : Migrated image rest × Says written done_line Done old new). inl (done.0, λ next. done.1 (so next)))
          (λ (idle : HandsBack Done old new × IsSpared image start (ShowsHeld image (HoldsEither image)) rest). inr (back_less written old new idle.0, idle.1))
          it

      module _ {N L S E C : Type 0} (listens : SocketAddrV4 → L → Type 0) (begins : C → Type 0) (gives : C → ℕ → C → Type 0) (told : L → List (Event S E) → Type 0) (are_ends : S → E → E → Type 0)
          (remaining : Gathered E → Option (List ℕ)) (contents : Outbox E → Option (List ℕ)) (input : Option (List ℕ)) (outside : N) (ending : Ending N L E C) where
        pub performs_less : (t : Task) → Performs listens begins gives told are_ends remaining contents written input t image start rest Done old new outside ending
            → Performs listens begins gives told are_ends remaining contents written input t image start rest Next old new outside ending
        performs_less (task.Init words) it = (it.0, fails_less it.1)
        performs_less (task.Desk words) it = speaks_less (Commands input words written Done old new) (Commands input words written Next old new) (commands_less written old new input words) it
        performs_less (task.Link words) it = unless_more looks_less it
        performs_less (task.Links words) it = unless_more looks_less it
        performs_less (task.Manifest words) it = speaks_less (Writes written IsManifest Done old new) (Writes written IsManifest Next old new) (writes_less written old new IsManifest) it
        performs_less (task.Compare words) it = speaks_less (Compares written input Done old new) (Compares written input Next old new) (compares_less written old new input) it
        performs_less (task.List words) it = speaks_less (Lists words written Done old new) (Lists words written Next old new) (lists_less written old new words) it
        performs_less (task.Export words) it = (it.0, looks_less it.1)
        performs_less (task.Replay words) it = unless_more (speaks_less (Answers words written Done old new) (Answers words written Next old new) (answers_less written old new words)) it
        performs_less (task.Serve words) it = run_more
            (Serves listens begins gives told are_ends remaining contents words Done outside ending) (Serves listens begins gives told are_ends remaining contents words Next outside ending)
            (NeverListens Done outside ending) (NeverListens Next outside ending)
            (serves_less listens begins gives told are_ends remaining contents words outside ending) (never_less outside ending) image start rest it
        performs_less (task.Migrate words) it = migrates_less it
