-- What a lease comes to, by the topology.
use Rattle.std.proofs.Common.{◌≡◌, ◌≤◌, ◌⊎◌, inl, inr, ℕ, Bool, true, false, List, [], length, arith, Option, Some, None, refl, ap, sym, subst, ◌∙◌}
use Rattle.std.specs.Prelude.{IfSome, max}
use Rattle.std.proofs.lemmas.List.{append-nil}
use Rattle.std.proofs.lemmas.Bool.{cond-true, cond-false}
use Rattle.std.proofs.lemmas.Bool.Decides.{nat_tests}
use Rattle.lms_core.specs.Tree.{identifier_of}
use Rattle.lms_core.specs.Parameters.{levels_of}
use Rattle.lease_disk.specs.Moments.{at_start}
use Rattle.leaf_lease.specs.LeaseFile.{IsOpen, is_open, kept_id, kept_height, file_size}
use Rattle.leaf_lease.specs.Format.{IsFresh}
use Rattle.aip_io.specs.Sink.{and_then, TookPart}
use Rattle.aip_topo.specs.declared.topology.Domain.{Domain}
use Rattle.aip_top.specs.declared.lease.Wanted.{Wanted}
use Rattle.aip_top.specs.declared.status.Status.{Status}
use Rattle.aip_top.specs.declared.status.Status.TheVariants as status
use Rattle.aip_top.specs.declared.status.LeaseFault.TheVariants as fault
use Rattle.aip_top.specs.Commands.{LeaseOf}
use Rattle.aip_top.specs.Judged.{IsEarly, IsOrMemory}
use Rattle.aip_top.specs.Leasing.{Asked, Refused, Keyed, Formats, HasFresh, IsBeforeDisk, IsFormatted, LeaseSays, OfKey, asked_of_domain, lease_end, lease_text, refusal_in}
use Rattle.aip_top.specs.Wanted.{IsWanted}
use Rattle.aip_top.specs.Written.{WritesOnDone}

-- to take nothing is to stay
pub and_nothing : (taken : Option (List ℕ)) → and_then taken [] ≡ taken
and_nothing None = refl
and_nothing (Some xs) = ap Some (append-nil xs)

pub took_nothing : (taken : Option (List ℕ)) (bytes : List ℕ) → TookPart taken taken bytes
took_nothing taken bytes = record { part = []; rest = bytes; whole = refl; took = sym (and_nothing taken) }

-- a name that no domain has is unknown
pub no_domain : (found : Option Domain) → None ≡ found → IsEarly (refusal_in (asked_of_domain found)) (status.Lease fault.Unknown)
no_domain found none = inr (ap (λ o. refusal_in (asked_of_domain o)) (sym none))

open_is : (file : List ℕ) → IsOpen file → is_open file ≡ true
open_is file opened =
    let there = opened.there in
    let gate = opened.gate in
    grind (arith, nat_tests)

either : (b : Bool) → (b ≡ true) ⊎ (b ≡ false)
either true = inl refl
either false = inr refl

closed_is : (file : List ℕ) → ¬ IsOpen file → is_open file ≡ false
closed_is file closed = elim (either (is_open file)) [
  | inl opened ↦ absurd (closed (record { there = grind (arith, nat_tests); gate = grind (arith, nat_tests) }))
  | inr is ↦ is
]

-- the end over a file that is closed, and over one that is open
closed_end : (file : List ℕ) → ¬ IsOpen file → lease_end file ≡ status.Done
closed_end file closed = cond-false _ _ _ (closed_is file closed)

open_end : (file id : List ℕ) (height : ℕ) → IsOpen file → id ≡ kept_id file → height ≡ kept_height file
    → lease_end file ≡ status.Lease (fault.Already id height)
open_end file id height opened same_id same_height =
    cond-true _ _ _ (open_is file opened) ∙ ap (λ i. status.Lease (fault.Already i (kept_height file))) (sym same_id)
    ∙ ap (λ h. status.Lease (fault.Already id h)) (sym same_height)

-- how a lease that reached the disk ends, where nothing failed
ends_told : (file : List ℕ) (end : Status) (A B C : Type 0) → LeaseSays (Some file) end → (IsBeforeDisk end → ⊥) → (end ≡ status.WriteFault → B)
    → (end ≡ status.DiskFault → C) → (A → ⊥) → (B → ⊥) → (C → ⊥) → IsOrMemory (lease_end file) end
ends_told file status.Done A B C says late write disk a b c = inl (sym (closed_end file (says file refl)))
ends_told file status.WriteFault A B C says late write disk a b c = absurd (b (write refl))
ends_told file (status.Lease (fault.Already id height)) A B C says late write disk a b c =
    let told = says file refl in
    inl (sym (open_end file id height told.0 told.1 told.2))
ends_told file (status.Lease fault.Unknown) A B C says late write disk a b c = absurd says
ends_told file (status.Lease fault.Keyless) A B C says late write disk a b c = absurd says
ends_told file status.ReadFault A B C says late write disk a b c = absurd (late tt)
ends_told file status.DiskFault A B C says late write disk a b c = absurd (c (disk refl))
ends_told file status.Memory A B C says late write disk a b c = absurd (late tt)
ends_told file status.Usage A B C says late write disk a b c = absurd says
ends_told file (status.Topology line f) A B C says late write disk a b c = absurd says
ends_told file (status.Schedule line f) A B C says late write disk a b c = absurd says
ends_told file (status.Wrong line) A B C says late write disk a b c = absurd says
ends_told file (status.Record line f) A B C says late write disk a b c = absurd says
ends_told file (status.Lease (fault.Unformatted size gate)) A B C says late write disk a b c = absurd says
ends_told file (status.Lease (fault.OtherKey id height)) A B C says late write disk a b c = absurd says
ends_told file (status.Lease (fault.Dry height)) A B C says late write disk a b c = absurd says

-- the same over every disk
lease_ends : (content : Option (List ℕ)) (end : Status) (A B C : Type 0) → LeaseSays content end → (IsBeforeDisk end → ⊥) → (end ≡ status.WriteFault → B)
    → (end ≡ status.DiskFault → C) → IfSome content (λ file. (A → ⊥) → (B → ⊥) → (C → ⊥) → IsOrMemory (lease_end file) end)
lease_ends None end A B C says late write disk = tt
lease_ends (Some file) end A B C says late write disk = ends_told file end A B C says late write disk

-- ## A lease that reached the disk

module _ {D : Type 0} (content : D → Option (List ℕ)) (may_leave : D → List ℕ → Type 0) (clock : D → ℕ) (during : D → ℕ → List ℕ → Type 0) where
  -- what comes of a key, where this is wanted
  of_wanted : (asked : Asked) (w : Wanted) (unread unwritten failed : Type 0) (end : Status) (disk after : D) (old new : Option (List ℕ)) → IsWanted asked w → LeaseSays (content disk) end
      → (IsFormatted end → HasFresh content may_leave w.id w.height disk after) → Formats content may_leave clock during w.id w.height disk after → WritesOnDone w.text.items end old new
      → (IsBeforeDisk end → ⊥) → (end ≡ status.WriteFault → unwritten) → (end ≡ status.DiskFault → failed)
      → OfKey asked (λ key. LeaseOf content may_leave clock during key unread unwritten failed end disk after old new)
  of_wanted (Refused refused) w unread unwritten failed end disk after old new wanted says fresh moments writes late put sync = absurd wanted
  of_wanted (Keyed key) w unread unwritten failed end disk after old new wanted says fresh moments writes late put sync = record {
    says = says;
    formatted = λ done. subst (λ h. HasFresh content may_leave (identifier_of key.seed) h disk after) wanted.height (subst (λ i. HasFresh content may_leave i w.height disk after) wanted.id (fresh done));
    moments = subst (λ h. Formats content may_leave clock during (identifier_of key.seed) h disk after) wanted.height (subst (λ i. Formats content may_leave clock during i w.height disk after) wanted.id moments);
    writes = subst (λ text. WritesOnDone text end old new) wanted.text writes;
    complete = lease_ends (content disk) end unread unwritten failed says late put sync;
  }

  pub reached : (t : Option (List ℕ)) (asked : List ℕ → Asked) (w : Wanted) (unread unwritten failed : Type 0) (end : Status) (disk after : D) (old new : Option (List ℕ)) → IfSome t (λ told. IsWanted (asked told) w)
      → LeaseSays (content disk) end → (IsFormatted end → HasFresh content may_leave w.id w.height disk after) → Formats content may_leave clock during w.id w.height disk after → WritesOnDone w.text.items end old new
      → (IsBeforeDisk end → ⊥) → (end ≡ status.WriteFault → unwritten) → (end ≡ status.DiskFault → failed)
      → IfSome t (λ told. OfKey (asked told) (λ key. LeaseOf content may_leave clock during key unread unwritten failed end disk after old new))
  reached None asked w unread unwritten failed end disk after old new wanted says fresh moments writes late put sync = tt
  reached (Some told) asked w unread unwritten failed end disk after old new wanted says fresh moments writes late put sync =
      of_wanted (asked told) w unread unwritten failed end disk after old new wanted says fresh moments writes late put sync

  -- a disk that isn't touched
  formats_same : ((disk : D) (image : List ℕ) → during disk (clock disk) image → may_leave disk image) → (disk : D) (id : List ℕ) (height : ℕ) → Formats content may_leave clock during id height disk disk
  formats_same only disk id height = record {
    lengths = λ longest all. at_start may_leave clock during disk (λ image. length image ≤ max longest (file_size height)) (only disk) (λ image left. let short : length image ≤ longest = all image left in omega arith);
    fresh = λ file reads firm closed. at_start may_leave clock during disk (IsFresh id height) (only disk)
        (λ image left opened. absurd (closed (let same : image ≡ file = (let firmly : content disk ≡ Some image = firm image left in cc) in subst IsOpen same opened)));
  }

  -- a lease that ends before the disk is touched leaves it as it was
  pub before : (t : Option (List ℕ)) (asked : List ℕ → Asked) (unread unwritten failed : Type 0) (end : Status) (disk : D) (old : Option (List ℕ)) → IfSome t (λ told. IsEarly (refusal_in (asked told)) end)
      → (end ≡ status.ReadFault → unread) → IsBeforeDisk end
      → ((disk : D) (image : List ℕ) → during disk (clock disk) image → may_leave disk image)
      → IfSome t (λ told. OfKey (asked told) (λ key. LeaseOf content may_leave clock during key unread unwritten failed end disk disk old old))
  before None asked unread unwritten failed end disk old ended rose early only = tt
  before (Some told) asked unread unwritten failed end disk old ended rose early only = each (asked told) ended
    where
      each : (a : Asked) → IsEarly (refusal_in a) end → OfKey a (λ key. LeaseOf content may_leave clock during key unread unwritten failed end disk disk old old)
      each (Refused refused) h = tt
      each (Keyed key) (inr is) = absurd (cc)
      each (Keyed key) (inl (inl is)) = record {
        says = subst (LeaseSays (content disk)) (sym is) tt;
        formatted = λ done. absurd (subst IsFormatted is done);
        moments = formats_same only disk (identifier_of key.seed) (levels_of key.height);
        writes = record { whole = λ done. absurd (let both : status.ReadFault ≡ status.Done = sym is ∙ done in cc); part = took_nothing old (lease_text key) };
        complete = elim (content disk) as (λ o. IfSome o (λ file. (unread → ⊥) → (unwritten → ⊥) → (failed → ⊥) → IsOrMemory (lease_end file) end)) [
          | None ↦ tt
          | Some file ↦ λ read put sync. absurd (read (rose is))
        ];
      }
      each (Keyed key) (inl (inr is)) = record {
        says = subst (LeaseSays (content disk)) (sym is) tt;
        formatted = λ done. absurd (subst IsFormatted is done);
        moments = formats_same only disk (identifier_of key.seed) (levels_of key.height);
        writes = record { whole = λ done. absurd (let both : status.Memory ≡ status.Done = sym is ∙ done in cc); part = took_nothing old (lease_text key) };
        complete = elim (content disk) as (λ o. IfSome o (λ file. (unread → ⊥) → (unwritten → ⊥) → (failed → ⊥) → IsOrMemory (lease_end file) end)) [
          | None ↦ tt
          | Some file ↦ λ read put sync. inr is
        ];
      }
