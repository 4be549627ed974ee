-- What comes of the signings of a host.
use Rattle.std.specs.Prelude.{ℕ, List}
use Rattle.aip_addr.specs.declared.ids.Address.{Address}
use Rattle.aip_frame.specs.declared.frame.Frame.{Frame}
use Rattle.aip_frame.specs.declared.frame.Kind.TheVariants as kind
use Rattle.aip_frame.specs.Frame.{frame_bytes}
use Rattle.aip_event.specs.declared.event.Event.TheVariants as event
use Rattle.aip_event.specs.declared.event.Reason.TheVariants as reason
use Rattle.aip_event.specs.declared.input.Target.{Target}
use Rattle.verify_packet.specs.Challenge.{asked_in}
use Rattle.verify_packet.specs.Response.{response_of}
use Rattle.shutoff_filter.specs.Body.{shutoff_of}
use Rattle.aip_rules.specs.declared.Reaction.{Reaction}
use Rattle.aip_rules.specs.declared.Seat.{Seat}
use Rattle.aip_rules.specs.Reaction.{dropped, happens, happens_and_puts}
use Rattle.aip_host.specs.declared.silencing.Demand.{Demand}
use Rattle.aip_host.specs.declared.signing.Signing.{Signing}
use Rattle.aip_host.specs.declared.signing.Signing.TheVariants.{Signed, Dry, Stopped}

-- the frame in which a source answers a challenge, with this public key and signature
abbrev pub response_frame : Address → Frame → List ℕ → List ℕ → Frame
response_frame from challenge key signature = record {
  kind = kind.Response;
  hop = 64;
  packet = challenge.packet;
  to = (asked_in challenge.body).router;
  from = from;
  body = response_of challenge.body key signature;
}

-- the frame in which a receiver demands silence, with this public key and signature
abbrev pub demand_frame : Address → Demand → List ℕ → List ℕ → Frame
demand_frame from demand key signature = record {
  kind = kind.ShutOff;
  hop = 64;
  packet = 0;
  to = demand.to;
  from = from;
  body = shutoff_of demand.hash demand.issue demand.ttl key signature;
}

-- what comes of a signing, where the signature completes a frame: the frame is put
abbrev pub ended : Seat → Target → (List ℕ → Frame) → Signing → Reaction
ended seat towards frame Dry = dropped seat.name reason.Dry
ended seat towards frame (Stopped leaf call byte) = happens (event.Stopped seat.name leaf call byte)
ended seat towards frame (Signed leaf signature) =
    happens_and_puts (event.Signed seat.name leaf) towards (frame_bytes (frame signature))
