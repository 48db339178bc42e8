-- The ways in which reading a body ends are different, and so are the ends of a session.
use Rattle.std.proofs.Common.{◌≡◌, ℕ, List}
use Rattle.wire.specs.declared.session.SessionEnd.TheVariants.{Limit, ReadFault, WriteFault}
use Rattle.office.specs.declared.connections.receiving.Received.TheVariants as received

pub limit_no_read : Limit ≡ ReadFault → ⊥
limit_no_read is = cc

pub limit_no_write : Limit ≡ WriteFault → ⊥
limit_no_write is = cc

pub gave_up_not_whole : (digest : List ℕ) → received.GaveUp ≡ received.Whole digest → ⊥
gave_up_not_whole digest is = cc

pub gave_up_not_lacking : received.GaveUp ≡ received.Lacking → ⊥
gave_up_not_lacking is = cc

pub gave_up_not_broken : received.GaveUp ≡ received.Broken → ⊥
gave_up_not_broken is = cc

pub whole_not_gave_up : (digest : List ℕ) → received.Whole digest ≡ received.GaveUp → ⊥
whole_not_gave_up digest is = cc

pub whole_not_lacking : (digest : List ℕ) → received.Whole digest ≡ received.Lacking → ⊥
whole_not_lacking digest is = cc

pub whole_not_broken : (digest : List ℕ) → received.Whole digest ≡ received.Broken → ⊥
whole_not_broken digest is = cc

pub lacking_not_gave_up : received.Lacking ≡ received.GaveUp → ⊥
lacking_not_gave_up is = cc

pub lacking_not_whole : (digest : List ℕ) → received.Lacking ≡ received.Whole digest → ⊥
lacking_not_whole digest is = cc

pub lacking_not_broken : received.Lacking ≡ received.Broken → ⊥
lacking_not_broken is = cc

pub broken_not_gave_up : received.Broken ≡ received.GaveUp → ⊥
broken_not_gave_up is = cc

pub broken_not_whole : (digest : List ℕ) → received.Broken ≡ received.Whole digest → ⊥
broken_not_whole digest is = cc

pub broken_not_lacking : received.Broken ≡ received.Lacking → ⊥
broken_not_lacking is = cc

pub same_digest : (a b : List ℕ) → received.Whole a ≡ received.Whole b → a ≡ b
same_digest a b is = cc
