use Rattle.std.proofs.Common.{inl, inr}
use Rattle.tasks.proofs.TaskValues.{if_some_or, some_or}
use Rattle.tasks.proofs.task.Task.sole_in.Goals as goal

pub returns-clause-task : goal.returns-clause-task
returns-clause-task c = if_some_or _ _ _ _ c.or-5.ensures (if_some_or _ _ _ _ c.or-4.ensures (if_some_or _ _ _ _ c.or-3.ensures (if_some_or _ _ _ _ c.or-2.ensures (if_some_or _ _ _ _ c.or.ensures c.init_in.ensures.task c.desk_in.ensures.task) c.link_in.ensures.task) c.stock_in.ensures.task) c.serve_in.ensures.task) c.migrate_in.ensures.task

pub returns-clause-named : goal.returns-clause-named
returns-clause-named c = λ named.
    elim named [
      | inl it ↦ some_or _ _ _ c.or-5.ensures (inl (some_or _ _ _ c.or-4.ensures (inl (some_or _ _ _ c.or-3.ensures (inl (some_or _ _ _ c.or-2.ensures (inl (some_or _ _ _ c.or.ensures (inl (c.init_in.ensures.named it))))))))))
      | inr (inl it) ↦ some_or _ _ _ c.or-5.ensures (inl (some_or _ _ _ c.or-4.ensures (inl (some_or _ _ _ c.or-3.ensures (inl (some_or _ _ _ c.or-2.ensures (inl (some_or _ _ _ c.or.ensures (inr (c.desk_in.ensures.named it))))))))))
      | inr (inr (inl it)) ↦ some_or _ _ _ c.or-5.ensures (inl (some_or _ _ _ c.or-4.ensures (inl (some_or _ _ _ c.or-3.ensures (inl (some_or _ _ _ c.or-2.ensures (inr (c.link_in.ensures.named it))))))))
      | inr (inr (inr (inl it))) ↦ some_or _ _ _ c.or-5.ensures (inl (some_or _ _ _ c.or-4.ensures (inl (some_or _ _ _ c.or-3.ensures (inr (c.stock_in.ensures.named it))))))
      | inr (inr (inr (inr (inl it)))) ↦ some_or _ _ _ c.or-5.ensures (inl (some_or _ _ _ c.or-4.ensures (inr (c.serve_in.ensures.named it))))
      | inr (inr (inr (inr (inr it)))) ↦ some_or _ _ _ c.or-5.ensures (inr (c.migrate_in.ensures.named it))
    ]
