-- What signing a record comes to, by the topology and the disk.
use Rattle.std.proofs.Common.{◌≡◌, ◌≢◌, ◌≤◌, ◌⊎◌, inl, inr, ℕ, ◌+◌, true, List, length, Option, Some, None, Ok, Err, arith, refl, ap, sym, subst, ◌∙◌}
use Rattle.std.specs.Prelude.{IfSome, Result}
use Rattle.std.specs.Option.{ForSome}
use Rattle.lms_core.specs.Tree.{Key}
use Rattle.lease_disk.specs.Images.{AtEachMoment}
use Rattle.lease_disk.specs.Kept.{AfterWrite, torn_same}
use Rattle.lease_disk.specs.Moments.{at_start}
use Rattle.leaf_lease.specs.LeaseFile.{IsGone, head_size}
use Rattle.aip_registry.specs.declared.records.Record.{Record}
use Rattle.record_signer.specs.declared.faults.SigningFault.{SigningFault}
use Rattle.record_signer.specs.declared.faults.SigningFault.TheVariants as signing
use Rattle.record_signer.specs.Signed.{IsOrCut, Signs, SparesBut, is_refusal, leaf_of, signed_by, signed_line}
use Rattle.aip_top.specs.declared.status.Status.{Status}
use Rattle.aip_top.specs.declared.status.Status.TheVariants as status
use Rattle.aip_top.specs.declared.issue.Draft.{Draft}
use Rattle.aip_top.specs.Commands.{RecordDone, RecordOf}
use Rattle.aip_top.specs.Draft.{IsDrafted}
use Rattle.aip_top.specs.Leasing.{IsBeforeDisk}
use Rattle.aip_top.specs.Judged.{IsEarly, IsOrMemory, IsUnread}
use Rattle.aip_top.specs.Recording.{Drafted, Denied, Drafts, HasWritten, IsFault, IsRefusedByFile, KeepsRecords, OfDraft, denial_in, record_end, status_unsigned}
use Rattle.aip_top.specs.Written.{WritesOnDone}
use Rattle.aip_top.proofs.Leases.{took_nothing}

-- ## The end of a record

-- an answer that is no fault, where nothing failed
ends_or : (end expected : Status) (A B C : Type 0) → IsFault end ⊎ (end ≡ expected) → (end ≡ status.ReadFault → A) → (end ≡ status.WriteFault → B) → (end ≡ status.DiskFault → C)
    → (A → ⊥) → (B → ⊥) → (C → ⊥) → IsOrMemory expected end
ends_or end expected A B C (inr is) read put sync a b c = inl is
ends_or end expected A B C (inl (inl is)) read put sync a b c = absurd (a (read is))
ends_or end expected A B C (inl (inr (inl is))) read put sync a b c = absurd (b (put is))
ends_or end expected A B C (inl (inr (inr (inl is)))) read put sync a b c = absurd (c (sync is))
ends_or end expected A B C (inl (inr (inr (inr is)))) read put sync a b c = inr is

complete_in : (content : Option (List ℕ)) (ends : List ℕ → Status) (end : Status) (A B C : Type 0) → ForSome content (λ file. IsFault end ⊎ (end ≡ ends file))
    → (end ≡ status.ReadFault → A) → (end ≡ status.WriteFault → B) → (end ≡ status.DiskFault → C)
    → IfSome content (λ file. (A → ⊥) → (B → ⊥) → (C → ⊥) → IsOrMemory (ends file) end)
complete_in None ends end A B C answer read put sync = tt
complete_in (Some file) ends end A B C answer read put sync = λ a b c. ends_or end (ends file) A B C (answer file refl) read put sync a b c

-- the answer of a signing, as a status
unsigned : (expected : Result (List ℕ) SigningFault) (f : SigningFault) → IsOrCut expected (Err f) → IsFault (status_unsigned f) ⊎ (status_unsigned f ≡ record_end expected)
unsigned expected f (inl is) = inr (ap record_end is)
unsigned expected f (inr (inl is)) = inl (inr (inr (inr (ap record_end is))))
unsigned expected f (inr (inr is)) = inl (inr (inr (inl (ap record_end is))))

-- a fault of signing writes nothing
unwritten : (f : SigningFault) → HasWritten (status_unsigned f) → ⊥
unwritten signing.Disk is = elim is [ inl i ↦ cc | inr i ↦ cc ]
unwritten (signing.Unformatted size gate) is = elim is [ inl i ↦ cc | inr i ↦ cc ]
unwritten (signing.OtherKey id height) is = elim is [ inl i ↦ cc | inr i ↦ cc ]
unwritten (signing.Dry height) is = elim is [ inl i ↦ cc | inr i ↦ cc ]
unwritten signing.Memory is = elim is [ inl i ↦ cc | inr i ↦ cc ]

-- a refusal by the file, as a status, is one as an answer
refusal_of : (f : SigningFault) → IsRefusedByFile (status_unsigned f) → is_refusal (Err f) ≡ true
refusal_of signing.Disk is = absurd is
refusal_of (signing.Unformatted size gate) is = refl
refusal_of (signing.OtherKey id height) is = refl
refusal_of (signing.Dry height) is = refl
refusal_of signing.Memory is = absurd is

-- what was to be written the file didn't refuse
not_refused : (end : Status) → (end ≡ status.WriteFault) ⊎ (end ≡ status.Done) → IsRefusedByFile end → ⊥
not_refused end (inl is) refused = subst IsRefusedByFile is refused
not_refused end (inr is) refused = subst IsRefusedByFile is refused

-- what comes before the disk is met writes nothing
unwritten_early : (end : Status) → IsBeforeDisk end → HasWritten end → ⊥
unwritten_early end early (inl is) = subst IsBeforeDisk is early
unwritten_early end early (inr is) = subst IsBeforeDisk is early

-- ## Over a disk

module _ {D : Type 0} (content : D → Option (List ℕ)) (may_leave : D → List ℕ → Type 0) (clock : D → ℕ) (during : D → ℕ → List ℕ → Type 0) where
  -- a line was signed, and written or not
  pub line_done : (key : Key) (r : Record) (disk after : D) (line : List ℕ) (end : Status) (old new : Option (List ℕ)) → ForSome (content disk) (λ file. IsOrCut (signed_by key r file) (Ok line))
      → Signs content may_leave clock during key r disk after (Ok line) → (end ≡ status.WriteFault) ⊎ (end ≡ status.Done) → WritesOnDone line end old new
      → RecordDone content may_leave clock during key r end disk after old new
  line_done key r disk after line end old new told signs put writes = record {
    leaf = signs.leaf;
    next = signs.next;
    answer = λ file is. elim put as (λ x. IsFault end ⊎ (end ≡ record_end (signed_by key r file))) [
      | inl failed ↦ inl (inr (inl failed))
      | inr done ↦ inr (done ∙ ap record_end (gives file is))
    ];
    signed = λ was file is. sym (gives file is) ∙ ap Ok signs.line;
    gone = λ was. signs.gone;
    reads = λ was. signs.reads;
    writes = subst (λ text. WritesOnDone text end old new) signs.line writes;
    looks = λ refused. absurd (not_refused end put refused);
    spared = signs.spared;
    spares = signs.spares;
  }
    where
      same : (expected : Result (List ℕ) SigningFault) → IsOrCut expected (Ok line) → Ok line ≡ expected
      same expected (inl is) = is
      same expected (inr (inl is)) = absurd (cc)
      same expected (inr (inr is)) = absurd (cc)

      gives : (file : List ℕ) → content disk ≡ Some file → Ok line ≡ signed_by key r file
      gives file is = same (signed_by key r file) (told file is)

  -- nothing was signed
  pub fault_done : (key : Key) (r : Record) (disk after : D) (f : SigningFault) (end : Status) (old : Option (List ℕ)) → end ≡ status_unsigned f → ForSome (content disk) (λ file. IsOrCut (signed_by key r file) (Err f))
      → Signs content may_leave clock during key r disk after (Err f) → RecordDone content may_leave clock during key r end disk after old old
  fault_done key r disk after f end old is told signs = record {
    leaf = signs.leaf;
    next = signs.next;
    answer = λ file here. subst (λ e. IsFault e ⊎ (e ≡ record_end (signed_by key r file))) (sym is) (unsigned (signed_by key r file) f (told file here));
    signed = λ was. absurd (unwritten f (subst HasWritten is was));
    gone = λ was. absurd (unwritten f (subst HasWritten is was));
    reads = λ was. absurd (unwritten f (subst HasWritten is was));
    writes = record { whole = λ done. absurd (unwritten f (subst HasWritten is (inl done))); part = took_nothing old (signed_line key signs.leaf r) };
    looks = λ refused. signs.looks (refusal_of f (subst IsRefusedByFile is refused));
    spared = signs.spared;
    spares = signs.spares;
  }

  -- what comes of a key and a record, where these are drafted
  pub of_draft : (t : Option (List ℕ)) (drafted : List ℕ → Drafted) (d : Draft) (unread unwritten failed : Type 0) (end : Status) (disk after : D) (old new : Option (List ℕ)) → IfSome t (λ told. IsDrafted (drafted told) d)
      → RecordDone content may_leave clock during d.tree d.fields end disk after old new → end ≢ status.ReadFault → (end ≡ status.WriteFault → unwritten) → (end ≡ status.DiskFault → failed)
      → IfSome t (λ told. OfDraft (drafted told) (λ key r. RecordOf content may_leave clock during key r unread unwritten failed end disk after old new))
  of_draft None drafted d unread unwritten failed end disk after old new is done read put sync = tt
  of_draft (Some told) drafted d unread unwritten failed end disk after old new is done read put sync = each (drafted told) is
    where
      each : (x : Drafted) → IsDrafted x d → OfDraft x (λ key r. RecordOf content may_leave clock during key r unread unwritten failed end disk after old new)
      each (Denied denied) never = absurd never
      each (Drafts key r) same =
          let here = subst (λ k. RecordDone content may_leave clock during k r end disk after old new) same.0 (subst (λ f. RecordDone content may_leave clock during d.tree f end disk after old new) same.1 done) in
          record { done = here; complete = complete_in (content disk) (λ file. record_end (signed_by key r file)) end unread unwritten failed here.answer (λ is. absurd (read is)) put sync }

  -- ## A disk that isn't met

  spares_same : ((disk : D) (image : List ℕ) → during disk (clock disk) image → may_leave disk image) → (leaf : ℕ) (disk : D) → SparesBut may_leave clock during leaf disk disk
  spares_same only leaf disk = record {
    moments = at_start may_leave clock during disk (AfterWrite (may_leave disk) (head_size + leaf) 1) (only disk) (λ image left. (image, left, torn_same (head_size + leaf) 1 image));
    gone = λ l all image left. all image (only disk image left);
    bytes = λ at other byte all image left. all image (only disk image left);
    lengths = λ longest all image left. let short : length image ≤ longest = all image (only disk image left) in omega arith;
    ticks = omega arith;
  }

  looked_same : ((disk : D) (image : List ℕ) → during disk (clock disk) image → may_leave disk image) → (disk : D) → AtEachMoment clock during disk disk (may_leave disk)
  looked_same only disk = at_start may_leave clock during disk (may_leave disk) (only disk) (λ image left. left)

  pub keeps_same : ((disk : D) (image : List ℕ) → during disk (clock disk) image → may_leave disk image) → (end : Status) (disk : D) → IsBeforeDisk end → KeepsRecords may_leave clock during end disk disk
  keeps_same only end disk early = record { leaf = 0; taken = λ was. absurd (unwritten_early end early was); looks = λ refused. looked_same only disk; spares = spares_same only 0 disk; gone = λ l all image left. all image left }

  -- a leaf that stays gone at each moment is gone in the disk that comes back
  pub keeps_done : ((disk : D) (t : ℕ) (image : List ℕ) → t ≤ clock disk → may_leave disk image → during disk t image) → (leaf : ℕ) (end : Status) (disk after : D) → SparesBut may_leave clock during leaf disk after
      → (HasWritten end → (image : List ℕ) → may_leave after image → IsGone leaf image) → (IsRefusedByFile end → AtEachMoment clock during disk after (may_leave disk)) → KeepsRecords may_leave clock during end disk after
  keeps_done counts leaf end disk after spares taken looks = record { leaf = leaf; taken = taken; looks = looks; spares = spares; gone = λ l all image left. spares.gone l all image (counts after (clock disk) image spares.moments.later left) }

  -- a record that ends before the disk is met leaves it as it was
  pub before_disk : ((disk : D) (image : List ℕ) → during disk (clock disk) image → may_leave disk image) → (t : Option (List ℕ)) (drafted : List ℕ → Drafted) (unread unwritten failed : Type 0) (end : Status) (disk : D) (old : Option (List ℕ))
      → IfSome t (λ told. IsEarly (denial_in (drafted told)) end) → (end ≡ status.ReadFault → unread)
      → IfSome t (λ told. OfDraft (drafted told) (λ key r. RecordOf content may_leave clock during key r unread unwritten failed end disk disk old old))
  before_disk only None drafted unread unwritten failed end disk old early rose = tt
  before_disk only (Some told) drafted unread unwritten failed end disk old early rose = each (drafted told) early
    where
      not_written : (end : Status) → IsUnread end → HasWritten end → ⊥
      not_written end (inl u) (inl is) = let both : status.ReadFault ≡ status.Done = sym u ∙ is in cc
      not_written end (inl u) (inr is) = let both : status.ReadFault ≡ status.WriteFault = sym u ∙ is in cc
      not_written end (inr u) (inl is) = let both : status.Memory ≡ status.Done = sym u ∙ is in cc
      not_written end (inr u) (inr is) = let both : status.Memory ≡ status.WriteFault = sym u ∙ is in cc

      is_fault : (end : Status) → IsUnread end → IsFault end
      is_fault end (inl u) = inl u
      is_fault end (inr u) = inr (inr (inr u))

      undone : (key : Key) (r : Record) (end : Status) → IsUnread end → RecordDone content may_leave clock during key r end disk disk old old
      undone key r end unread = record {
        leaf = leaf_of key (content disk);
        next = λ file is. ap (leaf_of key) is;
        answer = λ file is. inl (is_fault end unread);
        signed = λ was. absurd (not_written end unread was);
        gone = λ was. absurd (not_written end unread was);
        reads = λ was. absurd (not_written end unread was);
        writes = record { whole = λ done. absurd (not_written end unread (inl done)); part = took_nothing old (signed_line key (leaf_of key (content disk)) r) };
        looks = λ refused. looked_same only disk;
        spared = λ file is refused. looked_same only disk;
        spares = spares_same only (leaf_of key (content disk)) disk;
      }

      completes : (key : Key) (r : Record) → IsUnread end → (file : Option (List ℕ)) → IfSome file (λ f. (unread → ⊥) → (unwritten → ⊥) → (failed → ⊥) → IsOrMemory (record_end (signed_by key r f)) end)
      completes key r early None = tt
      completes key r (inl u) (Some f) = λ a b c. absurd (a (rose u))
      completes key r (inr u) (Some f) = λ a b c. inr u

      each : (x : Drafted) → IsEarly (denial_in x) end → OfDraft x (λ key r. RecordOf content may_leave clock during key r unread unwritten failed end disk disk old old)
      each (Denied denied) is = tt
      each (Drafts key r) (inr is) = absurd (cc)
      each (Drafts key r) (inl short) = record { done = undone key r end short; complete = completes key r short (content disk) }
