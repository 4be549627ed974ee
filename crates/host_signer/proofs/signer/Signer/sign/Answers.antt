use Rattle.std.proofs.Common.{◌≡◌, ◌≢◌, ◌+◌, ◌^◌, ℕ, ap, subst, ◌∙◌}
use Rattle.std.specs.Prelude.{Result, Err, IsTrue, ◌↔◌}
use Rattle.leaf_lease.specs.declared.leases.LeafLease.{LeafLease}
use Rattle.leaf_lease.specs.declared.leases.Leases.{Leases}
use Rattle.leaf_lease.specs.declared.leases.LeaseEnd.{LeaseEnd}
use Rattle.leaf_lease.specs.declared.leases.LeaseEnd.TheVariants.{Dry}
use Rattle.lease_disk.specs.Kept.{KeepsByte}
use Rattle.leaf_lease.specs.Kept.{KeepsGone}
use Rattle.leaf_lease.specs.LeaseFile.{head_size}
use Rattle.leaf_lease.specs.Leases.{leased_disk, is_dry}
use Rattle.host_signer.specs.declared.signer.SignEnd.{SignEnd}
use Rattle.host_signer.specs.Signers.{disk_of, height_of, next_of}
use Rattle.host_signer.proofs.Same.{same_signer, same_leases}
use Rattle.host_signer.proofs.signer.Signer.sign.Goals as goal

pub returns-in-Err-Dry-clause-dry : goal.returns-in-Err-Dry-clause-dry
returns-in-Err-Dry-clause-dry g c = λ dry.
    let self = c.args.self in
    let leases = c.in-Err-Dry.leases in
    let Answer : Type 0 = Result (Leases g.row.D.Denot g.D.Disk × LeafLease) (LeaseEnd g.row.D.Denot g.D.Disk) in
    let none_left =
    subst (λ end. IsTrue (is_dry (Err end)) ↔ (next_of self ≡ 2 ^ height_of self))
    c.in-Err-Dry.field-0-is c.in-Err-Dry.ensures.dry in
    let untouched =
    subst (λ end. IsTrue (is_dry (Err end)) → ◌≡◌ {A = Answer} (Err end) (Err (Dry self.leases)))
    c.in-Err-Dry.field-0-is c.in-Err-Dry.ensures.untouched in (
      none_left.0 dry ∙ ap (λ levels. 2 ^ levels) self.same_height,
      ap (λ signer. Err (SignEnd.Dry signer))
          (same_signer self leases _ _ (same_leases leases self.leases (untouched dry))),
    )

pub returns-in-Err-Dry-clause-keeps_bytes : goal.returns-in-Err-Dry-clause-keeps_bytes
returns-in-Err-Dry-clause-keeps_bytes g c =
    let disk = disk_of c.args.self in
    subst
    (λ end. (at : ℕ) → at ≢ head_size + next_of c.args.self
    → KeepsByte at (g.D.Disk.may_leave disk) (g.D.Disk.during (leased_disk (Err end)) (g.D.Disk.clock disk)))
    c.in-Err-Dry.field-0-is c.in-Err-Dry.ensures.keeps_bytes

pub returns-clause-keeps_gone : goal.returns-clause-keeps_gone
returns-clause-keeps_gone g c =
    let disk = disk_of c.args.self in
    subst
    (λ end. KeepsGone (g.D.Disk.may_leave disk) (g.D.Disk.during (leased_disk (Err end)) (g.D.Disk.clock disk)))
    c.in-Err-Failed.field-0-is c.in-Err-Failed.ensures.keeps_gone

pub returns-clause-keeps_bytes : goal.returns-clause-keeps_bytes
returns-clause-keeps_bytes g c =
    let disk = disk_of c.args.self in
    subst
    (λ end. (at : ℕ) → at ≢ head_size + next_of c.args.self
    → KeepsByte at (g.D.Disk.may_leave disk) (g.D.Disk.during (leased_disk (Err end)) (g.D.Disk.clock disk)))
    c.in-Err-Failed.field-0-is c.in-Err-Failed.ensures.keeps_bytes
