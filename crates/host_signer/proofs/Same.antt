-- A signer is known by its leases and its tree.
use Rattle.std.proofs.Common.{◌≡◌, List, ℕ, sym, ap, subst}
use Rattle.std.proofs.Props.{props}
use Rattle.std.specs.Prelude.{Result, Ok, Err}
use Rattle.lease_disk.specs.declared.disk.Disk.{Ghosts}
use Rattle.leaf_lease.specs.declared.leases.LeafLease.{LeafLease}
use Rattle.leaf_lease.specs.declared.leases.Leases.{Leases}
use Rattle.leaf_lease.specs.declared.leases.LeaseEnd.{LeaseEnd}
use Rattle.leaf_lease.specs.declared.leases.LeaseEnd.TheVariants.{Dry, Failed}
use Rattle.leaf_lease.specs.Leases as lease
use Rattle.lms_core.specs.Parameters.{levels_of}
use Rattle.lms_core.specs.Tree.{identifier_of}
use Rattle.host_signer.specs.declared.signer.Signer.{Signer}

-- an equation of lists has one proof
lists : (xs ys : List ℕ) → IsProp (xs ≡ ys)
lists xs ys = hlevel props

-- an equation of numbers has one proof
numbers : (m n : ℕ) → IsProp (m ≡ n)
numbers m n = hlevel props

module _ {D : Type 0} {G : Ghosts D} where
  -- the leases are those of the signer's key
  abbrev IsOf : Signer D G → Leases D G → Type 0
  IsOf signer leases =
      (lease.id_of leases ≡ identifier_of signer.tree.seed) × (lease.height_of leases ≡ levels_of signer.tree.height)

  -- the signer with these leases in place of its own
  abbrev with_leases : (signer : Signer D G) (leases : Leases D G) → IsOf signer leases → Signer D G
  with_leases signer leases of =
      record { leases = leases; tree = signer.tree; same_id = of.0; same_height = of.1 }

  -- the facts that tie its leases to its key have one proof each
  same_facts : (signer : Signer D G) (of : IsOf signer signer.leases) → with_leases signer signer.leases of ≡ signer
  same_facts signer of = λ i. record {
    leases = signer.leases;
    tree = signer.tree;
    same_id = lists (lease.id_of signer.leases) (identifier_of signer.tree.seed) of.0 signer.same_id i;
    same_height = numbers (lease.height_of signer.leases) (levels_of signer.tree.height) of.1 signer.same_height i;
  }

  -- the same of leases that are equal to its own
  same_with : (signer : Signer D G) (leases : Leases D G) (of : IsOf signer leases) → leases ≡ signer.leases
      → with_leases signer leases of ≡ signer
  same_with signer leases of same =
      subst (λ leases. (of : IsOf signer leases) → with_leases signer leases of ≡ signer)
      (sym same) (same_facts signer) of

  -- a signer whose leases came back as they were is the signer that it was
  pub same_signer : (signer : Signer D G) (leases : Leases D G)
      (id : lease.id_of leases ≡ identifier_of signer.tree.seed)
      (height : lease.height_of leases ≡ levels_of signer.tree.height) → leases ≡ signer.leases
      → ◌≡◌ {A = Signer D G}
      (record { leases = leases; tree = signer.tree; same_id = id; same_height = height }) signer
  same_signer signer leases id height same = same_with signer leases (id, height) same

  -- the leases that a lease gave back where no leaf was left
  dry_or : Leases D G → Result (Leases D G × LeafLease) (LeaseEnd D G) → Leases D G
  dry_or other (Ok given) = other
  dry_or other (Err (Dry leases)) = leases
  dry_or other (Err (Failed disk)) = other

  -- where a lease answers that its leases are dry, they came back as they were
  pub same_leases : (leases other : Leases D G)
      → ◌≡◌ {A = Result (Leases D G × LeafLease) (LeaseEnd D G)} (Err (Dry leases)) (Err (Dry other))
      → leases ≡ other
  unfolding dry_or
  same_leases leases other same = ap (dry_or other) same
