pub mod OutPipe
pub mod InPipe
pub mod Link
pub mod OutLink
pub mod InLink
pub mod Laws
pub mod OutExamples
pub mod InExamples
