-- Each offset that has a name is that of its register, and of no other.
use Rattle.std.specs.Prelude.{◌≡◌, Some, refl}
use Rattle.dwc2_regs.specs.declared.TheConstants.{GRSTCTL, GINTSTS, GINTMSK, GRXSTSR, GRXSTSP, GRXFSIZ, DIEPTXF0, HPTXFSIZ, HCFG, HAINT, HAINTMSK, HPRT, DCFG, DCTL, DSTS, DIEPMSK, DOEPMSK, DAINT, DAINTMSK, DIEPEMPMSK, HNPTXFSIZ, DIEPTSIZ0, DOEPTSIZ0}
use Rattle.dwc2_regs.specs.Register.{register_at, grstctl, gintsts, gintmsk, grxstsr, grxstsp, grxfsiz, dieptxf0, hptxfsiz, hcfg, haint, haintmsk, hprt, dcfg, dctl, dsts, diepmsk, doepmsk, daint, daintmsk, diepempmsk, dieptsiz, doeptsiz}

pub GRSTCTL-named : register_at GRSTCTL ≡ Some grstctl
GRSTCTL-named = refl

pub GINTSTS-named : register_at GINTSTS ≡ Some gintsts
GINTSTS-named = refl

pub GINTMSK-named : register_at GINTMSK ≡ Some gintmsk
GINTMSK-named = refl

pub GRXSTSR-named : register_at GRXSTSR ≡ Some grxstsr
GRXSTSR-named = refl

pub GRXSTSP-named : register_at GRXSTSP ≡ Some grxstsp
GRXSTSP-named = refl

pub GRXFSIZ-named : register_at GRXFSIZ ≡ Some grxfsiz
GRXFSIZ-named = refl

pub DIEPTXF0-named : register_at DIEPTXF0 ≡ Some dieptxf0
DIEPTXF0-named = refl

pub HPTXFSIZ-named : register_at HPTXFSIZ ≡ Some hptxfsiz
HPTXFSIZ-named = refl

pub HCFG-named : register_at HCFG ≡ Some hcfg
HCFG-named = refl

pub HAINT-named : register_at HAINT ≡ Some haint
HAINT-named = refl

pub HAINTMSK-named : register_at HAINTMSK ≡ Some haintmsk
HAINTMSK-named = refl

pub HPRT-named : register_at HPRT ≡ Some hprt
HPRT-named = refl

pub DCFG-named : register_at DCFG ≡ Some dcfg
DCFG-named = refl

pub DCTL-named : register_at DCTL ≡ Some dctl
DCTL-named = refl

pub DSTS-named : register_at DSTS ≡ Some dsts
DSTS-named = refl

pub DIEPMSK-named : register_at DIEPMSK ≡ Some diepmsk
DIEPMSK-named = refl

pub DOEPMSK-named : register_at DOEPMSK ≡ Some doepmsk
DOEPMSK-named = refl

pub DAINT-named : register_at DAINT ≡ Some daint
DAINT-named = refl

pub DAINTMSK-named : register_at DAINTMSK ≡ Some daintmsk
DAINTMSK-named = refl

pub DIEPEMPMSK-named : register_at DIEPEMPMSK ≡ Some diepempmsk
DIEPEMPMSK-named = refl

pub HNPTXFSIZ-named : register_at HNPTXFSIZ ≡ Some dieptxf0
HNPTXFSIZ-named = refl

pub DIEPTSIZ0-named : register_at DIEPTSIZ0 ≡ Some (dieptsiz 0)
DIEPTSIZ0-named = refl

pub DOEPTSIZ0-named : register_at DOEPTSIZ0 ≡ Some (doeptsiz 0)
DOEPTSIZ0-named = refl
