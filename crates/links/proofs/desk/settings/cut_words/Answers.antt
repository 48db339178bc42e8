use Rattle.std.proofs.Common.{Some, [], ◌∷◌, ◌++◌, arith}
use Rattle.links.proofs.DeskWords.{cut_once, not_cut}
use Rattle.links.proofs.desk.settings.cut_words.Goals as goal

pub returns-in_err-opens-clause-all : goal.returns-in_err-opens-clause-all
returns-in_err-opens-clause-all c opens closes days from to quota max_files mode rule l1 l2 l3 l4 l5 l6 l7 l8 is =
    absurd (not_cut 32 c.args.text.now opens (closes ++ 32 ∷ (days ++ 32 ∷ (from ++ 32 ∷ (to ++ 32 ∷ (quota ++ 32 ∷ (max_files ++ 32 ∷ (mode ++ 32 ∷ rule))))))) c.in_err-opens.ensures l1 is)

pub returns-in_err-closes-clause-all : goal.returns-in_err-closes-clause-all
returns-in_err-closes-clause-all c opens closes days from to quota max_files mode rule l1 l2 l3 l4 l5 l6 l7 l8 is =
    let opens_cut = cut_once 32 c.args.text.now c.in_ok-opens.opens.now c.in_ok-opens.rest.now opens (closes ++ 32 ∷ (days ++ 32 ∷ (from ++ 32 ∷ (to ++ 32 ∷ (quota ++ 32 ∷ (max_files ++ 32 ∷ (mode ++ 32 ∷ rule))))))) c.in_ok-opens.ensures l1 is in
    absurd (not_cut 32 c.in_ok-opens.rest.now closes (days ++ 32 ∷ (from ++ 32 ∷ (to ++ 32 ∷ (quota ++ 32 ∷ (max_files ++ 32 ∷ (mode ++ 32 ∷ rule)))))) c.in_err-closes.ensures l2 opens_cut.1)

pub returns-in_err-days-clause-all : goal.returns-in_err-days-clause-all
returns-in_err-days-clause-all c opens closes days from to quota max_files mode rule l1 l2 l3 l4 l5 l6 l7 l8 is =
    let opens_cut = cut_once 32 c.args.text.now c.in_ok-opens.opens.now c.in_ok-opens.rest.now opens (closes ++ 32 ∷ (days ++ 32 ∷ (from ++ 32 ∷ (to ++ 32 ∷ (quota ++ 32 ∷ (max_files ++ 32 ∷ (mode ++ 32 ∷ rule))))))) c.in_ok-opens.ensures l1 is in
    let closes_cut = cut_once 32 c.in_ok-opens.rest.now c.in_ok-closes.closes.now c.in_ok-closes.rest.now closes (days ++ 32 ∷ (from ++ 32 ∷ (to ++ 32 ∷ (quota ++ 32 ∷ (max_files ++ 32 ∷ (mode ++ 32 ∷ rule)))))) c.in_ok-closes.ensures l2 opens_cut.1 in
    absurd (not_cut 32 c.in_ok-closes.rest.now days (from ++ 32 ∷ (to ++ 32 ∷ (quota ++ 32 ∷ (max_files ++ 32 ∷ (mode ++ 32 ∷ rule))))) c.in_err-days.ensures l3 closes_cut.1)

pub returns-in_err-from-clause-all : goal.returns-in_err-from-clause-all
returns-in_err-from-clause-all c opens closes days from to quota max_files mode rule l1 l2 l3 l4 l5 l6 l7 l8 is =
    let opens_cut = cut_once 32 c.args.text.now c.in_ok-opens.opens.now c.in_ok-opens.rest.now opens (closes ++ 32 ∷ (days ++ 32 ∷ (from ++ 32 ∷ (to ++ 32 ∷ (quota ++ 32 ∷ (max_files ++ 32 ∷ (mode ++ 32 ∷ rule))))))) c.in_ok-opens.ensures l1 is in
    let closes_cut = cut_once 32 c.in_ok-opens.rest.now c.in_ok-closes.closes.now c.in_ok-closes.rest.now closes (days ++ 32 ∷ (from ++ 32 ∷ (to ++ 32 ∷ (quota ++ 32 ∷ (max_files ++ 32 ∷ (mode ++ 32 ∷ rule)))))) c.in_ok-closes.ensures l2 opens_cut.1 in
    let days_cut = cut_once 32 c.in_ok-closes.rest.now c.in_ok-days.days.now c.in_ok-days.rest.now days (from ++ 32 ∷ (to ++ 32 ∷ (quota ++ 32 ∷ (max_files ++ 32 ∷ (mode ++ 32 ∷ rule))))) c.in_ok-days.ensures l3 closes_cut.1 in
    absurd (not_cut 32 c.in_ok-days.rest.now from (to ++ 32 ∷ (quota ++ 32 ∷ (max_files ++ 32 ∷ (mode ++ 32 ∷ rule)))) c.in_err-from.ensures l4 days_cut.1)

pub returns-in_err-to-clause-all : goal.returns-in_err-to-clause-all
returns-in_err-to-clause-all c opens closes days from to quota max_files mode rule l1 l2 l3 l4 l5 l6 l7 l8 is =
    let opens_cut = cut_once 32 c.args.text.now c.in_ok-opens.opens.now c.in_ok-opens.rest.now opens (closes ++ 32 ∷ (days ++ 32 ∷ (from ++ 32 ∷ (to ++ 32 ∷ (quota ++ 32 ∷ (max_files ++ 32 ∷ (mode ++ 32 ∷ rule))))))) c.in_ok-opens.ensures l1 is in
    let closes_cut = cut_once 32 c.in_ok-opens.rest.now c.in_ok-closes.closes.now c.in_ok-closes.rest.now closes (days ++ 32 ∷ (from ++ 32 ∷ (to ++ 32 ∷ (quota ++ 32 ∷ (max_files ++ 32 ∷ (mode ++ 32 ∷ rule)))))) c.in_ok-closes.ensures l2 opens_cut.1 in
    let days_cut = cut_once 32 c.in_ok-closes.rest.now c.in_ok-days.days.now c.in_ok-days.rest.now days (from ++ 32 ∷ (to ++ 32 ∷ (quota ++ 32 ∷ (max_files ++ 32 ∷ (mode ++ 32 ∷ rule))))) c.in_ok-days.ensures l3 closes_cut.1 in
    let from_cut = cut_once 32 c.in_ok-days.rest.now c.in_ok-from.from.now c.in_ok-from.rest.now from (to ++ 32 ∷ (quota ++ 32 ∷ (max_files ++ 32 ∷ (mode ++ 32 ∷ rule)))) c.in_ok-from.ensures l4 days_cut.1 in
    absurd (not_cut 32 c.in_ok-from.rest.now to (quota ++ 32 ∷ (max_files ++ 32 ∷ (mode ++ 32 ∷ rule))) c.in_err-to.ensures l5 from_cut.1)

pub returns-in_err-quota-clause-all : goal.returns-in_err-quota-clause-all
returns-in_err-quota-clause-all c opens closes days from to quota max_files mode rule l1 l2 l3 l4 l5 l6 l7 l8 is =
    let opens_cut = cut_once 32 c.args.text.now c.in_ok-opens.opens.now c.in_ok-opens.rest.now opens (closes ++ 32 ∷ (days ++ 32 ∷ (from ++ 32 ∷ (to ++ 32 ∷ (quota ++ 32 ∷ (max_files ++ 32 ∷ (mode ++ 32 ∷ rule))))))) c.in_ok-opens.ensures l1 is in
    let closes_cut = cut_once 32 c.in_ok-opens.rest.now c.in_ok-closes.closes.now c.in_ok-closes.rest.now closes (days ++ 32 ∷ (from ++ 32 ∷ (to ++ 32 ∷ (quota ++ 32 ∷ (max_files ++ 32 ∷ (mode ++ 32 ∷ rule)))))) c.in_ok-closes.ensures l2 opens_cut.1 in
    let days_cut = cut_once 32 c.in_ok-closes.rest.now c.in_ok-days.days.now c.in_ok-days.rest.now days (from ++ 32 ∷ (to ++ 32 ∷ (quota ++ 32 ∷ (max_files ++ 32 ∷ (mode ++ 32 ∷ rule))))) c.in_ok-days.ensures l3 closes_cut.1 in
    let from_cut = cut_once 32 c.in_ok-days.rest.now c.in_ok-from.from.now c.in_ok-from.rest.now from (to ++ 32 ∷ (quota ++ 32 ∷ (max_files ++ 32 ∷ (mode ++ 32 ∷ rule)))) c.in_ok-from.ensures l4 days_cut.1 in
    let to_cut = cut_once 32 c.in_ok-from.rest.now c.in_ok-to.to.now c.in_ok-to.rest.now to (quota ++ 32 ∷ (max_files ++ 32 ∷ (mode ++ 32 ∷ rule))) c.in_ok-to.ensures l5 from_cut.1 in
    absurd (not_cut 32 c.in_ok-to.rest.now quota (max_files ++ 32 ∷ (mode ++ 32 ∷ rule)) c.in_err-quota.ensures l6 to_cut.1)

pub returns-in_err-max_files-clause-all : goal.returns-in_err-max_files-clause-all
returns-in_err-max_files-clause-all c opens closes days from to quota max_files mode rule l1 l2 l3 l4 l5 l6 l7 l8 is =
    let opens_cut = cut_once 32 c.args.text.now c.in_ok-opens.opens.now c.in_ok-opens.rest.now opens (closes ++ 32 ∷ (days ++ 32 ∷ (from ++ 32 ∷ (to ++ 32 ∷ (quota ++ 32 ∷ (max_files ++ 32 ∷ (mode ++ 32 ∷ rule))))))) c.in_ok-opens.ensures l1 is in
    let closes_cut = cut_once 32 c.in_ok-opens.rest.now c.in_ok-closes.closes.now c.in_ok-closes.rest.now closes (days ++ 32 ∷ (from ++ 32 ∷ (to ++ 32 ∷ (quota ++ 32 ∷ (max_files ++ 32 ∷ (mode ++ 32 ∷ rule)))))) c.in_ok-closes.ensures l2 opens_cut.1 in
    let days_cut = cut_once 32 c.in_ok-closes.rest.now c.in_ok-days.days.now c.in_ok-days.rest.now days (from ++ 32 ∷ (to ++ 32 ∷ (quota ++ 32 ∷ (max_files ++ 32 ∷ (mode ++ 32 ∷ rule))))) c.in_ok-days.ensures l3 closes_cut.1 in
    let from_cut = cut_once 32 c.in_ok-days.rest.now c.in_ok-from.from.now c.in_ok-from.rest.now from (to ++ 32 ∷ (quota ++ 32 ∷ (max_files ++ 32 ∷ (mode ++ 32 ∷ rule)))) c.in_ok-from.ensures l4 days_cut.1 in
    let to_cut = cut_once 32 c.in_ok-from.rest.now c.in_ok-to.to.now c.in_ok-to.rest.now to (quota ++ 32 ∷ (max_files ++ 32 ∷ (mode ++ 32 ∷ rule))) c.in_ok-to.ensures l5 from_cut.1 in
    let quota_cut = cut_once 32 c.in_ok-to.rest.now c.in_ok-quota.quota.now c.in_ok-quota.rest.now quota (max_files ++ 32 ∷ (mode ++ 32 ∷ rule)) c.in_ok-quota.ensures l6 to_cut.1 in
    absurd (not_cut 32 c.in_ok-quota.rest.now max_files (mode ++ 32 ∷ rule) c.in_err-max_files.ensures l7 quota_cut.1)

pub returns-in_err-mode-clause-all : goal.returns-in_err-mode-clause-all
returns-in_err-mode-clause-all c opens closes days from to quota max_files mode rule l1 l2 l3 l4 l5 l6 l7 l8 is =
    let opens_cut = cut_once 32 c.args.text.now c.in_ok-opens.opens.now c.in_ok-opens.rest.now opens (closes ++ 32 ∷ (days ++ 32 ∷ (from ++ 32 ∷ (to ++ 32 ∷ (quota ++ 32 ∷ (max_files ++ 32 ∷ (mode ++ 32 ∷ rule))))))) c.in_ok-opens.ensures l1 is in
    let closes_cut = cut_once 32 c.in_ok-opens.rest.now c.in_ok-closes.closes.now c.in_ok-closes.rest.now closes (days ++ 32 ∷ (from ++ 32 ∷ (to ++ 32 ∷ (quota ++ 32 ∷ (max_files ++ 32 ∷ (mode ++ 32 ∷ rule)))))) c.in_ok-closes.ensures l2 opens_cut.1 in
    let days_cut = cut_once 32 c.in_ok-closes.rest.now c.in_ok-days.days.now c.in_ok-days.rest.now days (from ++ 32 ∷ (to ++ 32 ∷ (quota ++ 32 ∷ (max_files ++ 32 ∷ (mode ++ 32 ∷ rule))))) c.in_ok-days.ensures l3 closes_cut.1 in
    let from_cut = cut_once 32 c.in_ok-days.rest.now c.in_ok-from.from.now c.in_ok-from.rest.now from (to ++ 32 ∷ (quota ++ 32 ∷ (max_files ++ 32 ∷ (mode ++ 32 ∷ rule)))) c.in_ok-from.ensures l4 days_cut.1 in
    let to_cut = cut_once 32 c.in_ok-from.rest.now c.in_ok-to.to.now c.in_ok-to.rest.now to (quota ++ 32 ∷ (max_files ++ 32 ∷ (mode ++ 32 ∷ rule))) c.in_ok-to.ensures l5 from_cut.1 in
    let quota_cut = cut_once 32 c.in_ok-to.rest.now c.in_ok-quota.quota.now c.in_ok-quota.rest.now quota (max_files ++ 32 ∷ (mode ++ 32 ∷ rule)) c.in_ok-quota.ensures l6 to_cut.1 in
    let max_files_cut = cut_once 32 c.in_ok-quota.rest.now c.in_ok-max_files.max_files.now c.in_ok-max_files.rest.now max_files (mode ++ 32 ∷ rule) c.in_ok-max_files.ensures l7 quota_cut.1 in
    absurd (not_cut 32 c.in_ok-max_files.rest.now mode rule c.in_err-mode.ensures l8 max_files_cut.1)

pub returns-clause-all : goal.returns-clause-all
returns-clause-all c opens closes days from to quota max_files mode rule l1 l2 l3 l4 l5 l6 l7 l8 is =
    let opens_cut = cut_once 32 c.args.text.now c.in_ok-opens.opens.now c.in_ok-opens.rest.now opens (closes ++ 32 ∷ (days ++ 32 ∷ (from ++ 32 ∷ (to ++ 32 ∷ (quota ++ 32 ∷ (max_files ++ 32 ∷ (mode ++ 32 ∷ rule))))))) c.in_ok-opens.ensures l1 is in
    let closes_cut = cut_once 32 c.in_ok-opens.rest.now c.in_ok-closes.closes.now c.in_ok-closes.rest.now closes (days ++ 32 ∷ (from ++ 32 ∷ (to ++ 32 ∷ (quota ++ 32 ∷ (max_files ++ 32 ∷ (mode ++ 32 ∷ rule)))))) c.in_ok-closes.ensures l2 opens_cut.1 in
    let days_cut = cut_once 32 c.in_ok-closes.rest.now c.in_ok-days.days.now c.in_ok-days.rest.now days (from ++ 32 ∷ (to ++ 32 ∷ (quota ++ 32 ∷ (max_files ++ 32 ∷ (mode ++ 32 ∷ rule))))) c.in_ok-days.ensures l3 closes_cut.1 in
    let from_cut = cut_once 32 c.in_ok-days.rest.now c.in_ok-from.from.now c.in_ok-from.rest.now from (to ++ 32 ∷ (quota ++ 32 ∷ (max_files ++ 32 ∷ (mode ++ 32 ∷ rule)))) c.in_ok-from.ensures l4 days_cut.1 in
    let to_cut = cut_once 32 c.in_ok-from.rest.now c.in_ok-to.to.now c.in_ok-to.rest.now to (quota ++ 32 ∷ (max_files ++ 32 ∷ (mode ++ 32 ∷ rule))) c.in_ok-to.ensures l5 from_cut.1 in
    let quota_cut = cut_once 32 c.in_ok-to.rest.now c.in_ok-quota.quota.now c.in_ok-quota.rest.now quota (max_files ++ 32 ∷ (mode ++ 32 ∷ rule)) c.in_ok-quota.ensures l6 to_cut.1 in
    let max_files_cut = cut_once 32 c.in_ok-quota.rest.now c.in_ok-max_files.max_files.now c.in_ok-max_files.rest.now max_files (mode ++ 32 ∷ rule) c.in_ok-max_files.ensures l7 quota_cut.1 in
    let mode_cut = cut_once 32 c.in_ok-max_files.rest.now c.in_ok-mode.mode.now c.in_ok-mode.rule.now mode rule c.in_ok-mode.ensures l8 max_files_cut.1 in
    λ i. Some (opens_cut.0 i ∷ closes_cut.0 i ∷ days_cut.0 i ∷ from_cut.0 i ∷ to_cut.0 i ∷ quota_cut.0 i ∷ max_files_cut.0 i ∷ mode_cut.0 i ∷ mode_cut.1 i ∷ [])

pub returns-in_err-opens-clause-some : goal.returns-in_err-opens-clause-some
returns-in_err-opens-clause-some c = rw c.from_residual.ensures tt

pub returns-in_err-closes-clause-some : goal.returns-in_err-closes-clause-some
returns-in_err-closes-clause-some c = rw c.from_residual-in_err-closes.ensures tt

pub returns-in_err-days-clause-some : goal.returns-in_err-days-clause-some
returns-in_err-days-clause-some c = rw c.from_residual-in_err-days.ensures tt

pub returns-in_err-from-clause-some : goal.returns-in_err-from-clause-some
returns-in_err-from-clause-some c = rw c.from_residual-in_err-from.ensures tt

pub returns-in_err-to-clause-some : goal.returns-in_err-to-clause-some
returns-in_err-to-clause-some c = rw c.from_residual-in_err-to.ensures tt

pub returns-in_err-quota-clause-some : goal.returns-in_err-quota-clause-some
returns-in_err-quota-clause-some c = rw c.from_residual-in_err-quota.ensures tt

pub returns-in_err-max_files-clause-some : goal.returns-in_err-max_files-clause-some
returns-in_err-max_files-clause-some c = rw c.from_residual-in_err-max_files.ensures tt

pub returns-in_err-mode-clause-some : goal.returns-in_err-mode-clause-some
returns-in_err-mode-clause-some c = rw c.from_residual-in_err-mode.ensures tt

pub returns-clause-some : goal.returns-clause-some
returns-clause-some c = grind arith
