-- Commands that end before anything is written.
use Rattle.std.proofs.Common.{◌≡◌, inl, inr, ℕ, true, List, [], Option, Some, None, Ok, Err, ap, sym, ◌∙◌}
use Rattle.std.specs.Prelude.{IfSome, Result}
use Rattle.aip_io.specs.Sink.{and_then}
use Rattle.aip_topo.specs.declared.topology.Topology.{Topology}
use Rattle.aip_topo.specs.Reading.{RefusedLine, topology_of}
use Rattle.aip_top.specs.declared.status.Status.{Status}
use Rattle.aip_top.specs.declared.status.Status.TheVariants as status
use Rattle.aip_top.specs.Addresses.{address_end_over, addresses_in, addresses_over}
use Rattle.aip_top.specs.Commands.{AddressOf}
use Rattle.aip_top.specs.Judged.{refusal_of, refusal_over, IsEarly, IsUnread}
use Rattle.aip_top.specs.Statuses.{kind_of}
use Rattle.aip_top.proofs.Leases.{and_nothing, took_nothing}

-- a fault of reading and want of memory cut a command short
pub cut : (end : Status) → IsUnread end → (kind_of end).cuts_short ≡ true
cut end (inl is) = ap (λ e. (kind_of e).cuts_short) is
cut end (inr is) = ap (λ e. (kind_of e).cuts_short) is

-- the writing of addresses is never expected to end so
not_unread : (r : Result Topology RefusedLine) (end : Status) → IsUnread end → end ≡ address_end_over r → ⊥
not_unread (Ok topo) end (inl u) is = let both : status.ReadFault ≡ status.Done = sym u ∙ is in cc
not_unread (Ok topo) end (inr u) is = let both : status.Memory ≡ status.Done = sym u ∙ is in cc
not_unread (Err refused) end (inl u) is = let both : status.ReadFault ≡ status.Topology refused.line refused.fault = sym u ∙ is in cc
not_unread (Err refused) end (inr u) is = let both : status.Memory ≡ status.Topology refused.line refused.fault = sym u ∙ is in cc

-- a topology text that is refused has no addresses
refused_by : (r : Result Topology RefusedLine) (end : Status) → refusal_over r ≡ Some end → (address_end_over r ≡ end) × (addresses_over r ≡ [])
refused_by (Ok topo) end is = absurd (cc)
refused_by (Err refused) end is = (cc, cc)

-- no address was written
pub unaddressed : (t : Option (List ℕ)) (unread unwritten : Type 0) (end : Status) (old : Option (List ℕ)) → IfSome t (λ told. IsEarly (refusal_of told) end) → (end ≡ status.ReadFault → unread)
    → IfSome t (λ told. AddressOf told unread unwritten end old old)
unaddressed None unread unwritten end old early rose = tt
unaddressed (Some told) unread unwritten end old (inl short) rose = record {
  writes = record {
    answer = inl (cut end short);
    whole = λ is. absurd (not_unread (topology_of told) end short is);
    part = took_nothing old (addresses_in told);
  };
  complete = λ a b. elim short [ inl is ↦ absurd (a (rose is)) | inr is ↦ inr is ];
}
unaddressed (Some told) unread unwritten end old (inr by) rose =
    let is = refused_by (topology_of told) end by in record {
      writes = record {
        answer = inr (sym is.0);
        whole = λ same. sym (ap (and_then old) is.1 ∙ and_nothing old);
        part = took_nothing old (addresses_in told);
      };
      complete = λ a b. inl (sym is.0);
    }
