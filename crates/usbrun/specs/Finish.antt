-- How a run that stopped ends.
use Rattle.std.specs.Prelude.{◌≡◌, ℕ, ◌+◌, ◌⊎◌, [], ⊤}
use Rattle.usb_edge.specs.Stream.{counted}
use Rattle.job_reader.specs.declared.head.NoHead.{NoHead}
use Rattle.job_reader.specs.declared.head.NoHead.TheVariants as no
use Rattle.usbrun.specs.declared.session.Stop.{Stop}
use Rattle.usbrun.specs.declared.session.Stop.TheVariants as stop
use Rattle.usbrun.specs.declared.texts.Texts.{Texts}
use Rattle.usbrun.specs.declared.status.Status.{Status}
use Rattle.usbrun.specs.declared.status.Status.TheVariants as status

-- the status of a head that isn't whole after so many lines
abbrev pub head_status : NoHead → ℕ → Status
head_status (no.Refused rule) lines = status.BadJob (lines + 1) rule
head_status no.Short lines = status.Short lines
head_status no.ReadFault lines = status.ReadFault

-- the status of a run that stopped after so many lines
abbrev pub stop_status : Stop → ℕ → Status
stop_status stop.End lines = status.Ok
stop_status (stop.Refused rule) lines = status.BadJob (lines + 1) rule
stop_status stop.Short lines = status.Short lines
stop_status stop.TooLong lines = status.TooLong
stop_status stop.ReadFault lines = status.ReadFault
stop_status stop.OutFault lines = status.WriteFault
stop_status stop.TraceFault lines = status.WriteFault

-- that status, once all that waited was handed on; or the sink failed
abbrev pub Closes : Status → Status → Texts → ℕ → ℕ → Type 0
Closes s ended texts faults faults' =
    ((ended ≡ s) × (texts.out ≡ []) × (faults' ≡ faults)) ⊎ ((ended ≡ status.WriteFault) × (faults' ≡ counted faults))

-- after a sink's fault nothing is handed on
abbrev pub Finishes : Stop → ℕ → Status → Texts → ℕ → ℕ → Type 0
Finishes stop.OutFault lines ended texts faults faults' = (ended ≡ status.WriteFault) × (faults' ≡ faults)
Finishes stop.TraceFault lines ended texts faults faults' = (ended ≡ status.WriteFault) × (faults' ≡ faults)
Finishes stop.End lines ended texts faults faults' = Closes (stop_status stop.End lines) ended texts faults faults'
Finishes (stop.Refused rule) lines ended texts faults faults' = Closes (stop_status (stop.Refused rule) lines) ended texts faults faults'
Finishes stop.Short lines ended texts faults faults' = Closes (stop_status stop.Short lines) ended texts faults faults'
Finishes stop.TooLong lines ended texts faults faults' = Closes (stop_status stop.TooLong lines) ended texts faults faults'
Finishes stop.ReadFault lines ended texts faults faults' = Closes (stop_status stop.ReadFault lines) ended texts faults faults'

-- a sink failed
abbrev pub HasFailed : Stop → Type 0
HasFailed stop.OutFault = ⊤
HasFailed stop.TraceFault = ⊤
HasFailed stop.End = ⊥
HasFailed (stop.Refused rule) = ⊥
HasFailed stop.Short = ⊥
HasFailed stop.TooLong = ⊥
HasFailed stop.ReadFault = ⊥
