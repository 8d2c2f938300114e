-- What one class does at an application's call, whatever its states are. What it does at all else usb_pipe's `Rules` say.
use Rattle.usb_pipe.specs.declared.reply.Reply.{Reply}
use Rattle.usb_pipe.specs.declared.reply.Reply.TheVariants as reply
use Rattle.usb_pipe.specs.Own.{Own}
use Rattle.device_line.specs.declared.call.DevCall.{DevCall}

pub record Calls (S : Type 0) : Type 0 where
  pub reply : S → Own → DevCall → Reply
  pub after_call : S → Own → DevCall → S
  pub pipes_after_call : S → Own → DevCall → Own

-- no class: each call is closed, and nothing changes
abbrev pub no_calls : {S : Type 0} → Calls S
no_calls = record {
  reply = λ s own call. reply.Closed;
  after_call = λ s own call. s;
  pipes_after_call = λ s own call. own;
}
