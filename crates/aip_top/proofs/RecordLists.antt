-- What the list of the records comes to, by the topology and the record file.
use Rattle.std.proofs.Common.{◌≡◌, ◌⊎◌, inl, inr, ℕ, true, List, Option, Some, None, Ok, Err, refl, ap, sym, subst, ◌∙◌}
use Rattle.std.specs.Prelude.{IfSome, Result}
use Rattle.aip_io.specs.Sink.{and_then}
use Rattle.aip_topo.specs.declared.topology.Topology.{Topology}
use Rattle.aip_topo.specs.Reading.{RefusedLine, topology_of}
use Rattle.aip_records.specs.Files.{RefusedRecord, records_of}
use Rattle.aip_sim.specs.Runs.{Writes}
use Rattle.aip_top.specs.declared.status.Status.{Status}
use Rattle.aip_top.specs.declared.status.Status.TheVariants as status
use Rattle.aip_top.specs.declared.status.LeaseFault.{LeaseFault}
use Rattle.aip_top.specs.declared.status.LeaseFault.TheVariants as fault
use Rattle.aip_top.specs.Commands.{RegistryOf}
use Rattle.aip_top.specs.Judged.{refusal_of, refusal_over, IsEarly, IsOrMemory, IsUnread}
use Rattle.aip_top.specs.Listings.{listing_end, listing_of, listing_text, registry_in, registry_over}
use Rattle.aip_top.specs.Statuses.{kind_of}
use Rattle.aip_top.specs.Written.{CutsShort}
use Rattle.aip_top.proofs.Early.{cut}
use Rattle.aip_top.proofs.Leases.{and_nothing, took_nothing}

-- ## A topology that is read

-- an answer that is expected or cut short, where nothing failed
pub ends_or : (end expected : Status) (A B : Type 0) → ((kind_of end).cuts_short ≡ true) ⊎ (end ≡ expected) → (end ≡ status.ReadFault → A) → (end ≡ status.WriteFault → B) → (A → ⊥) → (B → ⊥) → IsOrMemory expected end
ends_or end expected A B (inr is) read put a b = inl is
ends_or status.ReadFault expected A B (inl short) read put a b = absurd (a (read refl))
ends_or status.WriteFault expected A B (inl short) read put a b = absurd (b (put refl))
ends_or status.Memory expected A B (inl short) read put a b = inr refl
ends_or status.Done expected A B (inl short) read put a b = absurd (cc)
ends_or status.Usage expected A B (inl short) read put a b = absurd (cc)
ends_or status.DiskFault expected A B (inl short) read put a b = absurd (cc)
ends_or (status.Topology line f) expected A B (inl short) read put a b = absurd (cc)
ends_or (status.Schedule line f) expected A B (inl short) read put a b = absurd (cc)
ends_or (status.Wrong line) expected A B (inl short) read put a b = absurd (cc)
ends_or (status.Record line f) expected A B (inl short) read put a b = absurd (cc)
ends_or (status.Lease f) expected A B (inl short) read put a b = absurd (kept f short)
  where
    kept : (f : LeaseFault) → (kind_of (status.Lease f)).cuts_short ≡ true → ⊥
    kept fault.Unknown short = cc
    kept fault.Keyless short = cc
    kept (fault.Already id height) short = cc
    kept (fault.Unformatted size gate) short = cc
    kept (fault.OtherKey id height) short = cc
    kept (fault.Dry height) short = cc

-- what was listed over a topology that was read
pub listed : (t s mid : Option (List ℕ)) (topo : Topology) (unread unwritten : Type 0) (end : Status) (old new : Option (List ℕ)) → mid ≡ s → IfSome t (λ told. topology_of told ≡ Ok topo)
    → IfSome mid (λ file. Writes CutsShort (listing_end (listing_of (records_of topo.domains file))) (listing_text (listing_of (records_of topo.domains file))) end old new)
    → (end ≡ status.ReadFault → unread) → (end ≡ status.WriteFault → unwritten)
    → IfSome t (λ told. IfSome s (λ file. RegistryOf told file unread unwritten end old new))
listed None s mid topo unread unwritten end old new same given writes read put = tt
listed (Some told) None mid topo unread unwritten end old new same given writes read put = tt
listed (Some told) (Some file) mid topo unread unwritten end old new same given writes read put =
    let here = subst (λ o. IfSome o (λ file. Writes CutsShort (listing_end (listing_of (records_of topo.domains file))) (listing_text (listing_of (records_of topo.domains file))) end old new)) same writes in
    let wrote : Writes CutsShort (listing_end (registry_in told file)) (listing_text (registry_in told file)) end old new =
    subst (λ (r : Result Topology RefusedLine). Writes CutsShort (listing_end (registry_over r file)) (listing_text (registry_over r file)) end old new) (sym given) here in
    record { writes = wrote; complete = ends_or end (listing_end (registry_in told file)) unread unwritten wrote.answer read put }

-- ## A topology that isn't read

-- what is expected is never a fault of reading or want of memory
not_unread : (r : Result Topology RefusedLine) (file : List ℕ) (end : Status) → IsUnread end → end ≡ listing_end (registry_over r file) → ⊥
not_unread (Ok topo) file end unread is = each (records_of topo.domains file) is
  where
    each : (o : Result (List (List ℕ)) RefusedRecord) → end ≡ listing_end (listing_of o) → ⊥
    each (Ok published) is = elim unread [ inl u ↦ (let both : status.ReadFault ≡ status.Done = sym u ∙ is in cc) | inr u ↦ (let both : status.Memory ≡ status.Done = sym u ∙ is in cc) ]
    each (Err refused) is = elim unread [ inl u ↦ (let both : status.ReadFault ≡ status.Record refused.line refused.why = sym u ∙ is in cc) | inr u ↦ (let both : status.Memory ≡ status.Record refused.line refused.why = sym u ∙ is in cc) ]
not_unread (Err refused) file end unread is =
    elim unread [ inl u ↦ (let both : status.ReadFault ≡ status.Topology refused.line refused.fault = sym u ∙ is in cc) | inr u ↦ (let both : status.Memory ≡ status.Topology refused.line refused.fault = sym u ∙ is in cc) ]

-- the topology text that refuses a command refuses this one so, and nothing is written
refused_by : (r : Result Topology RefusedLine) (file : List ℕ) (end : Status) → refusal_over r ≡ Some end → registry_over r file ≡ Err end
refused_by (Ok topo) file end is = absurd (cc)
refused_by (Err refused) file end is = cc

-- nothing was listed
pub unlisted : (t s : Option (List ℕ)) (unread unwritten : Type 0) (end : Status) (old : Option (List ℕ)) → IfSome t (λ told. IsEarly (refusal_of told) end) → (end ≡ status.ReadFault → unread)
    → IfSome t (λ told. IfSome s (λ file. RegistryOf told file unread unwritten end old old))
unlisted None s unread unwritten end old early rose = tt
unlisted (Some told) None unread unwritten end old early rose = tt
unlisted (Some told) (Some file) unread unwritten end old (inl short) rose = record {
  writes = record {
    answer = inl (cut end short);
    whole = λ is. absurd (not_unread (topology_of told) file end short is);
    part = took_nothing old (listing_text (registry_in told file));
  };
  complete = λ a b. elim short [ inl is ↦ absurd (a (rose is)) | inr is ↦ inr is ];
}
unlisted (Some told) (Some file) unread unwritten end old (inr by) rose =
    let is = refused_by (topology_of told) file end by in record {
      writes = record {
        answer = inr (sym (ap listing_end is));
        whole = λ same. sym (ap (λ r. and_then old (listing_text r)) is ∙ and_nothing old);
        part = took_nothing old (listing_text (registry_in told file));
      };
      complete = λ a b. inl (sym (ap listing_end is));
    }
